-- From what a call of the book answers to what it makes of a desk.
use Rattle.std.proofs.Common.{◌≡◌, ℕ, ◌<◌, ◌≤◌, true, List, map, length, get_or, ℤ, sym, ap, ◌∙◌, subst, inl, inr, arith}
use Rattle.std.proofs.lemmas.List.{length-map, get_or-map}
use Rattle.rows.specs.Rows.{PlainQse}
use Rattle.account.specs.View.{View}
use Rattle.book.specs.Measuring.{Shorts, sum_short, struck_rows}
use Rattle.book.specs.State.{Book, State, with_book, with_qses, with_strike}
use Rattle.replay.specs.declared.calls.Answer.{Answer}
use Rattle.replay.specs.declared.calls.Answer.TheVariants.{Shortfall}
use Rattle.replay.specs.declared.calls.Call.{Call}
use Rattle.replay.specs.declared.calls.Call.TheVariants.{Short, Strike}
use Rattle.replay.specs.Runs.{Desk, Barred, Looks, StrikesBook, OnOpen, OnStruck, measure_at, struck_state}

pub struck_after : (m : View → ℕ) (s : State) (b : Book) (qs : List PlainQse) (t : ℕ) → t ≡ sum_short m s → b ≡ with_strike s.book true t → qs ≡ struck_rows m s → with_qses (with_book s b) qs ≡ struck_state m s
struck_after m s b qs t sum book rows =
    ap (λ (x : List PlainQse). with_qses (with_book s b) x) rows ∙ ap (λ (x : Book). with_qses (with_book s x) (struck_rows m s)) (book ∙ ap (with_strike s.book true) sum)

pub as_before : (s : State) (b : Book) (qs : List PlainQse) → b ≡ s.book → qs ≡ s.qses → with_qses (with_book s b) qs ≡ s
as_before s b qs book rows = ap (λ (x : List PlainQse). with_qses (with_book s b) x) rows ∙ ap (λ (x : Book). with_book s x) book

-- what holds of the call that was matched holds of the call
pub open_call : (ms : List (View → ℕ)) (c k : Call) (d d' : Desk) (a : Answer) → c ≡ k → OnOpen ms k d d' a → OnOpen ms c d d' a
open_call ms c k d d' a is h = subst (λ x. OnOpen ms x d d' a) (sym is) h

pub struck_call : (c k : Call) (d d' : Desk) (a : Answer) → c ≡ k → OnStruck k d d' a → OnStruck c d d' a
struck_call c k d d' a is h = subst (λ x. OnStruck x d d' a) (sym is) h

module _ {X : Type 0} (f : X → View → ℕ) (xs : List X) (j : ℕ) (d d' : Desk) (a : Answer) where
  module _ (x : X) (lt : j < length xs) (read : x ≡ get_or xs j x) where
    measure_read : measure_at (map f xs) j ≡ f x
    measure_read = get_or-map f xs j x (λ _. 0) lt ∙ ap f (sym read)

    named : j < length (map f xs)
    named = omega (arith, length-map xs f)

    pub short_named : (q : ℤ) → Looks (Shorts (f x) q) Shortfall d d' a → OnOpen (map f xs) (Short j q) d d' a
    short_named q h = inl (named, subst (λ m. Looks (Shorts m q) Shortfall d d' a) (sym measure_read) h)
