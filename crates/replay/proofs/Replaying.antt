-- A run grows by a call, and measures under the bound are lawful.
use Rattle.std.proofs.Common.{◌≡◌, ℕ, zero, suc, ◌+◌, ◌<◌, ◌≤◌, List, [], ◌∷◌, ◌++◌, map, length, get_or, take, set, sym, refl, ap, ◌∙◌, subst, arith}
use Rattle.std.proofs.lemmas.List.{take_all, take_more_set, map-set, set-get_or, get_or-map}
use Rattle.account.specs.View.{View}
use Rattle.replay.specs.declared.calls.Call.{Call}
use Rattle.replay.specs.declared.calls.Entry.{Entry}
use Rattle.replay.specs.Runs.{Desk, Step, Run, measure_at}
use Rattle.replay.specs.Guarantee.{Lawful}

run_push : (ms : List (View → ℕ)) (es : List Entry) (e : Entry) (d m d' : Desk) → Run ms d es m → Step ms e.call m d' e.answer → Run ms d (es ++ e ∷ []) d'
run_push ms [] e d m d' ran step = (d', subst (λ (x : Desk). Step ms e.call x d' e.answer) ran step, refl)
run_push ms (x ∷ es) e d m d' ran step = (ran.0, ran.1, run_push ms es e ran.0 m d' ran.2 step)

abbrev call_of : Entry → Call
call_of e = e.call

-- one more call of the journal is made and its answer written
pub turn : (ms : List (View → ℕ)) (js : List Entry) (i : ℕ) (z new : Entry) (start m d' : Desk) → i < length js → new.call ≡ (get_or js i z).call → Step ms (get_or js i z).call m d' new.answer
    → Run ms start (take i js) m → Run ms start (take (i + 1) (set js i new)) d'
turn ms js i z new start m d' lt same step ran =
    subst (λ l. Run ms start l d') (sym (take_more_set js i new lt)) (run_push ms (take i js) new start m d' ran (subst (λ c. Step ms c m d' new.answer) (sym same) step))

-- the whole journal is made
pub whole : (ms : List (View → ℕ)) (js : List Entry) (i : ℕ) (start d : Desk) → length js ≤ i → Run ms start (take i js) d → Run ms start js d
whole ms js i start d done ran = subst (λ l. Run ms start l d) (take_all i js done) ran

pub calls_kept : (js : List Entry) (i : ℕ) (z new : Entry) → i < length js → new.call ≡ (get_or js i z).call → map call_of (set js i new) ≡ map call_of js
calls_kept js i z new lt same =
    map-set call_of js i new ∙ ap (set (map call_of js) i) (same ∙ sym (get_or-map call_of js i z z.call lt)) ∙ set-get_or (map call_of js) i z.call

nothing_lawful : Lawful (λ _. 0)
nothing_lawful = record { order = λ v ls h. refl; pool = λ v w. omega arith; help = λ v w h. omega arith; nothing = refl }

pub all_lawful : {X : Type 0} (f : X → View → ℕ) → ((x : X) → Lawful (f x)) → (xs : List X) (j : ℕ) → Lawful (measure_at (map f xs) j)
all_lawful f laws [] j = nothing_lawful
all_lawful f laws (x ∷ xs) zero = laws x
all_lawful f laws (x ∷ xs) (suc j) = all_lawful f laws xs j
