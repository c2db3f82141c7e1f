-- A list is written by one row alone.
use Rattle.std.proofs.Common.{◌≡◌, ℕ, zero, suc, Bool, true, false, List, [], ◌∷◌, ◌++◌, map, length, ℤ, pos, negsuc, sym, refl, ap, ◌∙◌, append_assoc, arith}
use Rattle.std.proofs.lemmas.List.{length-map}
use Rattle.rows.specs.Codes.{kind_number, status_number, sides_number, traded_number, traded_sub}
use Rattle.rows.specs.Rows.{PlainFiguresSide, PlainLoad, PlainQse, PlainSide, PlainResource, PlainTrade}
use Rattle.rows.specs.declared.codes.Kind.{Kind}
use Rattle.rows.specs.declared.codes.Kind.TheVariants.{Generation, Renewable, Storage, LoadResource}
use Rattle.rows.specs.declared.codes.Status.{Status}
use Rattle.rows.specs.declared.codes.Status.TheVariants.{Absent, On, Off, OffQs}
use Rattle.rows.specs.declared.codes.SubType.{SubType}
use Rattle.rows.specs.declared.codes.SubType.TheVariants.{RegUp, RegDown, Pfr, Ufr, Ffr, Ecs, Ecm, Nss, Nsm}
use Rattle.rows.specs.declared.codes.Sides.{Sides}
use Rattle.rows.specs.declared.codes.Sides.TheVariants.{SnapshotOnly, AdjustedOnly, Both}
use Rattle.rows.specs.declared.codes.Traded.{Traded}
use Rattle.rows.specs.declared.codes.Traded.TheVariants.{Capacity, Energy, Position}
use Rattle.rows.specs.Codes.{sub_number}
use Rattle.entry.specs.Numbers.{mark, figures_side_numbers, side_numbers}
use Rattle.cases.specs.Written.{NineEach, WrittenUnit, WrittenQse, WrittenLoad, WrittenTrade}

pub pos_same : {m n : ℕ} → pos m ≡ pos n → m ≡ n
pos_same e = cc

pub head_same : {x y : ℤ} {xs ys : List ℤ} → x ∷ xs ≡ y ∷ ys → x ≡ y
head_same e = cc

pub tail_same : {x y : ℤ} {xs ys : List ℤ} → x ∷ xs ≡ y ∷ ys → xs ≡ ys
tail_same e = cc

-- lists whose first parts are as long
parts_same : (ws bs cs ds : List ℤ) → length ws ≡ length bs → ws ++ cs ≡ bs ++ ds → (ws ≡ bs) × (cs ≡ ds)
parts_same [] [] cs ds l e = (refl, e)
parts_same [] (b ∷ bs) cs ds l e = absurd (omega arith)
parts_same (w ∷ ws) [] cs ds l e = absurd (omega arith)
parts_same (w ∷ ws) (b ∷ bs) cs ds l e =
    let r = parts_same ws bs cs ds (omega arith) (tail_same e) in
    let h = head_same e in
    let t = r.0 in
    (cc, r.1)

powers_same : (ms ns : List ℕ) → map pos ms ≡ map pos ns → ms ≡ ns
powers_same [] [] e = refl
powers_same [] (n ∷ ns) e = cc
powers_same (m ∷ ms) [] e = cc
powers_same (m ∷ ms) (n ∷ ns) e =
    let h = pos_same (head_same e) in
    let t = powers_same ms ns (tail_same e) in
    cc

powers_long : (ms ns : List ℕ) → length ms ≡ 9 → length ns ≡ 9 → length (map pos ms) ≡ length (map pos ns)
powers_long ms ns l k = omega (arith, length-map ms pos, length-map ns pos)

powers_split : (ms ns : List ℕ) (xs ys : List ℤ) → length ms ≡ 9 → length ns ≡ 9 → map pos ms ++ xs ≡ map pos ns ++ ys → (ms ≡ ns) × (xs ≡ ys)
powers_split ms ns xs ys l k e = let r = parts_same (map pos ms) (map pos ns) xs ys (powers_long ms ns l k) e in (powers_same ms ns r.0, r.1)

-- codes by their numbers
kind_at : ℕ → Kind
kind_at zero = Generation
kind_at (suc zero) = Generation
kind_at (suc (suc zero)) = Renewable
kind_at (suc (suc (suc zero))) = Storage
kind_at (suc (suc (suc (suc n)))) = LoadResource

kind_back : (k : Kind) → kind_at (kind_number k) ≡ k
unfolding kind_at
kind_back Generation = refl
kind_back Renewable = refl
kind_back Storage = refl
kind_back LoadResource = refl

status_at : ℕ → Status
status_at zero = Absent
status_at (suc zero) = On
status_at (suc (suc zero)) = Off
status_at (suc (suc (suc n))) = OffQs

status_back : (s : Status) → status_at (status_number s) ≡ s
unfolding status_at
status_back Absent = refl
status_back On = refl
status_back Off = refl
status_back OffQs = refl

sides_at : ℕ → Sides
sides_at zero = SnapshotOnly
sides_at (suc zero) = SnapshotOnly
sides_at (suc (suc zero)) = AdjustedOnly
sides_at (suc (suc (suc n))) = Both

sides_back : (s : Sides) → sides_at (sides_number s) ≡ s
unfolding sides_at
sides_back SnapshotOnly = refl
sides_back AdjustedOnly = refl
sides_back Both = refl

sub_at : ℕ → SubType
sub_at zero = RegUp
sub_at (suc zero) = RegUp
sub_at (suc (suc zero)) = RegDown
sub_at (suc (suc (suc zero))) = Pfr
sub_at (suc (suc (suc (suc zero)))) = Ufr
sub_at (suc (suc (suc (suc (suc zero))))) = Ffr
sub_at (suc (suc (suc (suc (suc (suc zero)))))) = Ecs
sub_at (suc (suc (suc (suc (suc (suc (suc zero))))))) = Ecm
sub_at (suc (suc (suc (suc (suc (suc (suc (suc zero)))))))) = Nss
sub_at (suc (suc (suc (suc (suc (suc (suc (suc (suc n))))))))) = Nsm

sub_back : (s : SubType) → sub_at (sub_number s) ≡ s
unfolding sub_at
sub_back RegUp = refl
sub_back RegDown = refl
sub_back Pfr = refl
sub_back Ufr = refl
sub_back Ffr = refl
sub_back Ecs = refl
sub_back Ecm = refl
sub_back Nss = refl
sub_back Nsm = refl

-- what a trade moves, by its kind and its sub-type
traded_at : ℕ → ℕ → Traded
traded_at zero s = Capacity
traded_at (suc zero) s = Capacity
traded_at (suc (suc zero)) s = Energy
traded_at (suc (suc (suc n))) s = Position (sub_at s)

traded_back : (t : Traded) → traded_at (traded_number t) (traded_sub t) ≡ t
unfolding traded_at
traded_back Capacity = refl
traded_back Energy = refl
traded_back (Position s) = ap Position (sub_back s)

mark_at : ℤ → Bool
mark_at (pos zero) = false
mark_at (pos (suc n)) = true
mark_at (negsuc n) = false

mark_back : (b : Bool) → mark_at (mark b) ≡ b
unfolding mark_at
mark_back true = refl
mark_back false = refl

kind_same : (k m : Kind) → pos (kind_number k) ≡ pos (kind_number m) → k ≡ m
kind_same k m e = sym (kind_back k) ∙ ap kind_at (pos_same e) ∙ kind_back m

status_same : (s t : Status) → pos (status_number s) ≡ pos (status_number t) → s ≡ t
status_same s t e = sym (status_back s) ∙ ap status_at (pos_same e) ∙ status_back t

sides_same : (s t : Sides) → pos (sides_number s) ≡ pos (sides_number t) → s ≡ t
sides_same s t e = sym (sides_back s) ∙ ap sides_at (pos_same e) ∙ sides_back t

traded_same : (s t : Traded) → pos (traded_number s) ≡ pos (traded_number t) → pos (traded_sub s) ≡ pos (traded_sub t) → s ≡ t
traded_same s t e h =
    sym (traded_back s) ∙ ap (λ n. traded_at n (traded_sub s)) (pos_same e) ∙ ap (traded_at (traded_number t)) (pos_same h) ∙ traded_back t

mark_same : (a b : Bool) → mark a ≡ mark b → a ≡ b
mark_same a b e = sym (mark_back a) ∙ ap mark_at e ∙ mark_back b

side_same : (s t : PlainSide) (xs ys : List ℤ) → NineEach s → NineEach t → side_numbers s ++ xs ≡ side_numbers t ++ ys → (s ≡ t) × (xs ≡ ys)
side_same s t xs ys m n e =
    let e1 = tail_same e in
    let e2 = tail_same e1 in
    let e3 = tail_same e2 in
    let status = status_same s.status t.status (head_same e) in
    let hsl = pos_same (head_same e1) in
    let lsl = head_same e2 in
    let potential = pos_same (head_same e3) in
    let p : (map pos s.offered ++ (map pos s.cop ++ map pos s.qualified)) ++ xs ≡ (map pos t.offered ++ (map pos t.cop ++ map pos t.qualified)) ++ ys = tail_same e3 in
    let q = simp append_assoc at p in
    let offered = powers_split s.offered t.offered _ _ m.offered n.offered q in
    let cop = powers_split s.cop t.cop _ _ m.cop n.cop offered.1 in
    let qualified = powers_split s.qualified t.qualified _ _ m.qualified n.qualified cop.1 in
    let a = offered.0 in
    let b = cop.0 in
    let c = qualified.0 in
    (λ i. record { status = status i; hsl = hsl i; lsl = lsl i; potential = potential i; offered = a i; cop = b i; qualified = c i }, qualified.1)

pub unit_same : (r p : PlainResource) (xs : List ℤ) → WrittenUnit r xs → WrittenUnit p xs → r ≡ p
unit_same r p xs v w =
    let e = v.numbers ∙ sym w.numbers in
    let e1 = tail_same e in
    let e2 = tail_same e1 in
    let e3 = tail_same e2 in
    let e4 = tail_same e3 in
    let qse = pos_same (head_same e) in
    let kind = kind_same r.kind p.kind (head_same e1) in
    let outage = mark_same r.outage p.outage (head_same e2) in
    let decommitted = mark_same r.decommitted p.decommitted (head_same e3) in
    let before = pos_same (head_same e4) in
    let snapshot = side_same r.snapshot p.snapshot _ _ v.snapshot w.snapshot (tail_same e4) in
    let adjusted = side_same r.adjusted p.adjusted [] [] v.adjusted w.adjusted (ap (λ l. l ++ []) snapshot.1) in
    let a = snapshot.0 in
    let b = adjusted.0 in
    λ i. record { qse = qse i; kind = kind i; outage = outage i; decommitted = decommitted i; before = before i; snapshot = a i; adjusted = b i }

figures_side_same : (s t : PlainFiguresSide) (xs ys : List ℤ) → length s.positions ≡ 9 → length t.positions ≡ 9 → figures_side_numbers s ++ xs ≡ figures_side_numbers t ++ ys → (s ≡ t) × (xs ≡ ys)
figures_side_same s t xs ys l k e =
    let e1 = tail_same e in
    let dcimport = pos_same (head_same e) in
    let storagenet = head_same e1 in
    let positions = powers_split s.positions t.positions xs ys l k (tail_same e1) in
    let a = positions.0 in
    (λ i. record { dcimport = dcimport i; storagenet = storagenet i; positions = a i }, positions.1)

pub qse_same : (r p : PlainQse) (xs : List ℤ) → WrittenQse r xs → WrittenQse p xs → r ≡ p
qse_same r p xs v w =
    let e = v.numbers ∙ sym w.numbers in
    let e1 = tail_same e in
    let e2 = tail_same e1 in
    let e3 = tail_same e2 in
    let e4 = tail_same e3 in
    let number = pos_same (head_same e) in
    let credit = pos_same (head_same e1) in
    let purchase = pos_same (head_same e2) in
    let sale = pos_same (head_same e3) in
    let tie = mark_same r.figures.tie p.figures.tie (head_same e4) in
    let snapshot = figures_side_same r.figures.snapshot p.figures.snapshot _ _ v.snapshot w.snapshot (tail_same e4) in
    let adjusted = figures_side_same r.figures.adjusted p.figures.adjusted [] [] v.adjusted w.adjusted (ap (λ l. l ++ []) snapshot.1) in
    let a = snapshot.0 in
    let b = adjusted.0 in
    let shortfall = v.shortfall ∙ sym w.shortfall in
    let cents = v.cents ∙ sym w.cents in
    λ i. record {
      number = number i;
      figures = record { credit = credit i; purchase = purchase i; sale = sale i; tie = tie i; snapshot = a i; adjusted = b i };
      shortfall = shortfall i;
      cents = cents i;
    }

pub load_same : (r p : PlainLoad) (xs : List ℤ) → WrittenLoad r xs → WrittenLoad p xs → r ≡ p
load_same r p xs v w =
    let e = v.numbers ∙ sym w.numbers in
    let e1 = tail_same e in
    let qse = pos_same (head_same e) in
    let point = pos_same (head_same e1) in
    let kwh = pos_same (head_same (tail_same e1)) in
    let cents = v.cents ∙ sym w.cents in
    λ i. record { qse = qse i; point = point i; kwh = kwh i; cents = cents i }

pub trade_same : (r p : PlainTrade) (xs : List ℤ) → WrittenTrade r xs → WrittenTrade p xs → r ≡ p
trade_same r p xs v w =
    let e = v.numbers ∙ sym w.numbers in
    let e1 = tail_same e in
    let e2 = tail_same e1 in
    let e3 = tail_same e2 in
    let e4 = tail_same e3 in
    let traded = traded_same r.traded p.traded (head_same e) (head_same e1) in
    let sides = sides_same r.sides p.sides (head_same e2) in
    let seller = pos_same (head_same e3) in
    let buyer = pos_same (head_same e4) in
    let kw = pos_same (head_same (tail_same e4)) in
    let counts = v.counts ∙ sym w.counts in
    λ i. record { traded = traded i; sides = sides i; seller = seller i; buyer = buyer i; kw = kw i; counts = counts i }
