-- What every call keeps of a book that was opened.
use Rattle.std.proofs.Common.{◌≡◌, ℕ, ◌+◌, ◌<◌, ◌≤◌, true, false, cond, eqb, List, [], ◌∷◌, ◌++◌, map, length, take, drop, sum_by, sym, refl, ap, ◌∙◌, subst, inl, inr, arith}
use Rattle.std.specs.List.{AllByRecursion}
use Rattle.std.proofs.ByRecursion.{All-push, All-weaker, All-map}
use Rattle.std.proofs.lemmas.List.{take_more_set, map_push, length-map}
use Rattle.std.proofs.lemmas.List.Sums.{sum_by_push}
use Rattle.std.proofs.lemmas.Bool.{cases_lt, false≢true}
use Rattle.rows.specs.Rows.{PlainQse, PlainFigures, PlainLoad, PlainResource}
use Rattle.rows.specs.declared.fault.Fault.TheVariants.{BrokenTable, NotEnrolled, AlreadyEnrolled, NoPlace}
use Rattle.account.specs.Own.{PlainTables, qse_own}
use Rattle.account.specs.View.{View}
use Rattle.account.proofs.Rows.{sum_map}
use Rattle.shortfall.specs.Pool.{Among, Distinct, numbers, owns, total}
use Rattle.shortfall.specs.Shortfall.{shortfall_of}
use Rattle.shortfall.specs.Strike.{row_short, written}
use Rattle.book.specs.Causes.{Absent, Enrolled, broken, unenrolled, already, full}
use Rattle.book.specs.Charging.{Charged, PaysQse, PaysLoad}
use Rattle.book.specs.Entries.{refigure, refigured, new_qse, new_book}
use Rattle.book.specs.Measuring.{sum_short}
use Rattle.book.specs.State.{Book, State, qse_rows, load_rows, tables_of, add_qse, add_load, add_resource, with_qses, with_book, with_claims, with_strike}
use Rattle.book.specs.declared.books.Claim.{Claim as Slip}
use Rattle.replay.specs.Runs.{measure_at, struck_state}
use Rattle.replay.specs.Guarantee.{Struck}
use Rattle.replay.proofs.Numbered.{among_pushed, distinct_push, among_cases}
use Rattle.replay.proofs.Tables.{map_same, map_twice, all_unmap, front_of, rest_kept, pot_put, bare_load, bare_qse, same_own, same_owns}

-- the shortfalls in the rows are those of the rules under m, and sum to t
pub record Written (m : View → ℕ) (t : ℕ) (s : State) : Type 0 where
  pub total : s.book.total ≡ t
  pub sum : t ≡ sum_short m s
  pub rows : AllByRecursion (λ x. x.shortfall ≡ row_short m (tables_of s) x) (qse_rows s)

abbrev pub cents_in : State → ℕ
cents_in s = sum_by (λ x. x.cents) (qse_rows s) + sum_by (λ l. l.cents) (load_rows s)

-- k is the last strike, n the cents charged so far
pub record Kept (ms : List (View → ℕ)) (k : Struck) (n : ℕ) (s : State) : Type 0 where
  pub distinct : Distinct (numbers (qse_rows s))
  pub parties : AllByRecursion (λ r. Among (numbers (qse_rows s)) r.qse) (tables_of s).resources
  pub struck : s.book.struck ≡ true → Written (measure_at ms k.measure) k.total s
  pub cents : cents_in s ≡ n

-- counts within tables
pub qses_long : (s : State) → Absent (broken s) → s.book.qses ≤ length s.qses
qses_long s sound = elim (cases_lt (length s.qses) s.book.qses) [ inl h ↦ absurd (sound BrokenTable (refl, inl h)) | inr h ↦ h ]

pub place_left : (n most long : ℕ) → Absent (full n most long) → n < long
place_left n most long room = elim (cases_lt n long) [ inl h ↦ h | inr h ↦ absurd (room NoPlace (refl, inr h)) ]

pub is_enrolled : (s : State) (q : ℕ) → Absent (unenrolled s q) → Enrolled s q
is_enrolled s q known = elim (among_cases (numbers (qse_rows s)) q) [ inl h ↦ h | inr none ↦ absurd (known NotEnrolled (refl, none)) ]

refigured_map : {Y : Type 0} (g : PlainQse → Y) (q : ℕ) (f : PlainFigures) → ((x : PlainQse) → g (refigure f x) ≡ g x) → (xs : List PlainQse) → map g (refigured q f xs) ≡ map g xs
refigured_map g q f same [] = refl
refigured_map g q f same (x ∷ xs) =
    elim (eqb x.number q) as (λ b. map g (cond b (refigure f x ∷ xs) (x ∷ refigured q f xs)) ≡ map g (x ∷ xs)) [
      | true ↦ ap (λ y. y ∷ map g xs) (same x)
      | false ↦ ap (λ l. g x ∷ l) (refigured_map g q f same xs)
    ]

pub refigured_long : (q : ℕ) (f : PlainFigures) (xs : List PlainQse) → length (refigured q f xs) ≡ length xs
refigured_long q f xs = sym (length-map (refigured q f xs) (λ x. x.number)) ∙ ap length (refigured_map (λ x. x.number) q f (λ x. refl) xs) ∙ length-map xs (λ x. x.number)

module _ (ms : List (View → ℕ)) (k : Struck) (n : ℕ) where
  pub kept_opened : (s : State) (number : ℕ) → s.book ≡ new_book number → Kept ms k 0 s
  kept_opened s number new =
      let at : Book → State = λ b. with_book s b in
      subst (λ b. Kept ms k 0 (at b)) (sym new) (record { distinct = tt; parties = tt; struck = λ e. absurd (false≢true e); cents = refl })

  -- an open book keeps numbers, parties and cents alone
  open_kept : (s : State) → s.book.struck ≡ false → Distinct (numbers (qse_rows s)) → AllByRecursion (λ r. Among (numbers (qse_rows s)) r.qse) (tables_of s).resources → cents_in s ≡ n → Kept ms k n s
  open_kept s o d p c = record { distinct = d; parties = p; struck = λ e. absurd (false≢true (sym o ∙ e)); cents = c }

  module _ (s : State) (o : s.book.struck ≡ false) (kept : Kept ms k n s) where
    pub enrol_kept : (q : ℕ) → Absent (already s q) → Absent (full s.book.qses 64 (length s.qses)) → Kept ms k n (add_qse s (new_qse q))
    enrol_kept q new room =
        let rows = take_more_set s.qses s.book.qses (new_qse q) (place_left s.book.qses 64 (length s.qses) room) in
        let ns : numbers (qse_rows (add_qse s (new_qse q))) ≡ numbers (qse_rows s) ++ q ∷ [] = ap numbers rows ∙ map_push (λ x. x.number) (qse_rows s) (new_qse q) in
        open_kept (add_qse s (new_qse q)) o
        (subst Distinct (sym ns) (distinct_push (numbers (qse_rows s)) q kept.distinct (λ h. new AlreadyEnrolled (refl, h))))
        (All-weaker _ _ (λ r h. subst (λ l. Among l r.qse) (sym ns) (among_pushed (numbers (qse_rows s)) q r.qse h)) (tables_of s).resources kept.parties)
        (omega (arith, ap (sum_by (λ x. x.cents)) rows, sum_by_push (λ x. x.cents) (qse_rows s) (new_qse q), kept.cents))

    pub load_kept : (l : PlainLoad) → l.cents ≡ 0 → s.book.loads < length s.loads → Kept ms k n (add_load s l)
    load_kept l none room =
        let rows = take_more_set s.loads s.book.loads l room in
        open_kept (add_load s l) o kept.distinct kept.parties
        (omega (arith, ap (sum_by (λ x. x.cents)) rows, sum_by_push (λ x. x.cents) (load_rows s) l, none, kept.cents))

    pub resource_kept : (r : PlainResource) → Enrolled s r.qse → s.book.resources < length s.resources → Kept ms k n (add_resource s r)
    resource_kept r known room =
        let rows = take_more_set s.resources s.book.resources r room in
        open_kept (add_resource s r) o kept.distinct
        (subst (AllByRecursion (λ x. Among (numbers (qse_rows s)) x.qse)) (sym rows) (All-push _ (tables_of s).resources r kept.parties known)) kept.cents

    -- the trades are no part of it
    pub trades_kept : (s' : State) → s'.book.struck ≡ false → qse_rows s' ≡ qse_rows s → load_rows s' ≡ load_rows s → (tables_of s').resources ≡ (tables_of s).resources → Kept ms k n s'
    trades_kept s' o' qs ls rs =
        open_kept s' o' (subst (λ l. Distinct (numbers l)) (sym qs) kept.distinct)
        (subst (λ l. AllByRecursion (λ r. Among (numbers l) r.qse) (tables_of s').resources) (sym qs) (subst (AllByRecursion (λ r. Among (numbers (qse_rows s)) r.qse)) (sym rs) kept.parties))
        (omega (arith, ap (sum_by (λ x. x.cents)) qs, ap (sum_by (λ l. l.cents)) ls, kept.cents))

    pub figures_kept : (q : ℕ) (f : PlainFigures) → Absent (broken s) → Kept ms k n (with_qses s (refigured q f (qse_rows s) ++ drop s.book.qses s.qses))
    figures_kept q f sound =
        let new = refigured q f (qse_rows s) in
        let s' = with_qses s (new ++ drop s.book.qses s.qses) in
        let same = refigured_map (λ x. x.number) q f (λ x. refl) (qse_rows s) in
        let rows : qse_rows s' ≡ new = front_of s.book.qses s.qses new (qses_long s sound) (refigured_long q f (qse_rows s)) in
        let ns : numbers (qse_rows s') ≡ numbers (qse_rows s) = ap numbers rows ∙ same in
        let cents : sum_by (λ x. x.cents) (qse_rows s') ≡ sum_by (λ x. x.cents) (qse_rows s) =
        ap (sum_by (λ x. x.cents)) rows ∙ sym (sum_map (λ c. c) (λ x. x.cents) new) ∙ ap (sum_by (λ c. c)) (refigured_map (λ x. x.cents) q f (λ x. refl) (qse_rows s)) ∙ sum_map (λ c. c) (λ x. x.cents) (qse_rows s) in
        open_kept s' o (subst Distinct (sym ns) kept.distinct)
        (subst (λ l. AllByRecursion (λ r. Among l r.qse) (tables_of s).resources) (sym ns) kept.parties) (omega (arith, cents, kept.cents))

  -- claims made or handed back, and a book opened again
  pub claims_kept : (s : State) (made out : ℕ) → Kept ms k n s → Kept ms k n (with_book s (with_claims s.book made out))
  claims_kept s made out kept = record {
    distinct = kept.distinct;
    parties = kept.parties;
    cents = kept.cents;
    struck = λ e. let w = kept.struck e in record { total = w.total; sum = w.sum; rows = w.rows };
  }

  pub reopen_kept : (s : State) → Kept ms k n s → Kept ms k n (with_book s (with_strike s.book false 0))
  reopen_kept s kept = open_kept (with_book s (with_strike s.book false 0)) refl kept.distinct kept.parties kept.cents

-- the rows of a struck book
pub struck_rows_are : (m : View → ℕ) (s : State) → Absent (broken s) → qse_rows (struck_state m s) ≡ map (written m (tables_of s)) (qse_rows s)
struck_rows_are m s sound = front_of s.book.qses s.qses (map (written m (tables_of s)) (qse_rows s)) (qses_long s sound) (length-map (qse_rows s) (written m (tables_of s)))

pub strike_kept : (ms : List (View → ℕ)) (k : Struck) (n j : ℕ) (s : State) → Absent (broken s) → Kept ms k n s → Kept ms (record { measure = j; total = sum_short (measure_at ms j) s }) n (struck_state (measure_at ms j) s)
strike_kept ms k n j s sound kept =
    let m = measure_at ms j in
    let t = tables_of s in
    let w = written m t in
    let rows = struck_rows_are m s sound in
    let ns : numbers (qse_rows (struck_state m s)) ≡ numbers (qse_rows s) = ap numbers rows ∙ map_twice (λ x. x.number) w (qse_rows s) in
    let sums : sum_short m (struck_state m s) ≡ sum_short m s = ap (λ l. total m (owns t l)) rows ∙ ap (total m) (map_twice (λ q. qse_own q t) w (qse_rows s)) in
    let every : (xs : List PlainQse) → AllByRecursion (λ x. (w x).shortfall ≡ row_short m t (w x)) xs = all_refl m t in
    record {
      distinct = subst Distinct (sym ns) kept.distinct;
      parties = subst (λ l. AllByRecursion (λ r. Among l r.qse) t.resources) (sym ns) kept.parties;
      struck = λ _. record { total = refl; sum = sym sums; rows = subst (AllByRecursion (λ x. x.shortfall ≡ row_short m t x)) (sym rows) (All-map (λ x. x.shortfall ≡ row_short m t x) w (qse_rows s) (every (qse_rows s))) };
      cents = omega (arith, ap (sum_by (λ x. x.cents)) rows, sum_map (λ x. x.cents) w (qse_rows s), kept.cents);
    }
  where
    all_refl : (m : View → ℕ) (t : PlainTables) (xs : List PlainQse) → AllByRecursion (λ x. (written m t x).shortfall ≡ row_short m t (written m t x)) xs
    all_refl m t [] = tt
    all_refl m t (x ∷ xs) = (refl, all_refl m t xs)

abbrev blank_load : PlainLoad
blank_load = record { qse = 0; point = 0; kwh = 0; cents = 0 }

module _ (c : Slip) (s s' : State) (p r : ℕ) (done : Charged c s s' p r) where
  -- the QSE rows after a charge
  pub charged_rows : qse_rows s' ≡ take s.book.qses s'.qses
  charged_rows = ap (λ (b : Book). take b.qses s'.qses) done.book

  charged_loads : load_rows s' ≡ take s.book.loads s'.loads
  charged_loads = ap (λ (b : Book). take b.loads s'.loads) done.book

  charged_resources : (tables_of s').resources ≡ (tables_of s).resources
  charged_resources = ap (λ (b : Book). take b.resources s'.resources) done.book ∙ ap (take s.book.resources) done.resources

  charged_trades : (tables_of s').trades ≡ (tables_of s).trades
  charged_trades = ap (λ (b : Book). take b.trades s'.trades) done.book ∙ ap (take s.book.trades) done.trades

  bare_rows : map bare_qse (qse_rows s') ≡ map bare_qse (qse_rows s)
  bare_rows = ap (map bare_qse) charged_rows ∙ rest_kept (λ x. x.shortfall) (λ x. x.cents) PaysQse bare_qse (λ x n y e. ap bare_qse e) (new_qse 0) p (qse_rows s) (take s.book.qses s'.qses) done.qses

  bare_loads : map bare_load (load_rows s') ≡ map bare_load (load_rows s)
  bare_loads = ap (map bare_load) charged_loads ∙ rest_kept (λ x. x.kwh) (λ x. x.cents) PaysLoad bare_load (λ x n y e. ap bare_load e) blank_load r (load_rows s) (take s.book.loads s'.loads) done.loads

  -- a charge changes nobody's rows but for cents
  pub own_charged : (x : PlainQse) → qse_own x (tables_of s') ≡ qse_own x (tables_of s)
  own_charged = same_own (tables_of s) (tables_of s') bare_loads charged_resources charged_trades

  written_charged : (m : View → ℕ) (t : ℕ) → Written m t s → Written m t s'
  written_charged m t w =
      let P : PlainTables → PlainQse → Type 0 = λ t x. x.shortfall ≡ row_short m t x in
      let here : AllByRecursion (P (tables_of s)) (qse_rows s') =
      all_unmap (P (tables_of s)) bare_qse (qse_rows s') (subst (AllByRecursion (P (tables_of s))) (sym bare_rows) (All-map (P (tables_of s)) bare_qse (qse_rows s) w.rows)) in
      record {
        total = ap (λ (b : Book). b.total) done.book ∙ w.total;
        sum = w.sum ∙ sym (ap (total m) (map_same (λ x. qse_own x (tables_of s')) (λ x. qse_own x (tables_of s)) own_charged (qse_rows s') ∙ same_owns (tables_of s) (qse_rows s) (qse_rows s') bare_rows));
        rows = All-weaker (P (tables_of s)) (P (tables_of s')) (λ x e. e ∙ sym (ap (shortfall_of m) (own_charged x))) (qse_rows s') here;
      }

  pub charge_kept : (ms : List (View → ℕ)) (k : Struck) (n : ℕ) → Kept ms k n s → Kept ms k (n + (p + r)) s'
  charge_kept ms k n kept =
      let ns : numbers (qse_rows s') ≡ numbers (qse_rows s) = sym (map_twice (λ x. x.number) bare_qse (qse_rows s')) ∙ ap numbers bare_rows ∙ map_twice (λ x. x.number) bare_qse (qse_rows s) in
      record {
        distinct = subst Distinct (sym ns) kept.distinct;
        parties = subst (λ l. AllByRecursion (λ r. Among l r.qse) (tables_of s').resources) (sym ns) (subst (AllByRecursion (λ r. Among (numbers (qse_rows s)) r.qse)) (sym charged_resources) kept.parties);
        struck = λ e. written_charged (measure_at ms k.measure) k.total (kept.struck (sym (ap (λ (b : Book). b.struck) done.book) ∙ e));
        cents = omega (
          arith,
          ap (sum_by (λ x. x.cents)) charged_rows,
          ap (sum_by (λ l. l.cents)) charged_loads,
          pot_put (λ x. x.shortfall) (λ x. x.cents) PaysQse p (qse_rows s) (take s.book.qses s'.qses) done.qses,
          pot_put (λ x. x.kwh) (λ x. x.cents) PaysLoad r (load_rows s) (take s.book.loads s'.loads) done.loads,
          kept.cents,
        );
      }
