-- The twelve cases, by computing the definitions.
use Rattle.std.proofs.Common.{◌≡◌, ℕ, refl, arith}
use Rattle.rows.specs.declared.codes.Side.{Side}
use Rattle.rows.specs.declared.codes.Side.TheVariants.{Snapshot, Adjusted}
use Rattle.account.specs.View.{View}
use Rattle.measure.specs.Grouped.{grouped}
use Rattle.least.specs.SubType.{reserve, sub_type}
use Rattle.cases.specs.Both.{IsBoth}
use Rattle.cases.specs.declared.figures.Both.{Both}
use Rattle.cases.specs.Cases.{nothing, bare_load, served_load, one_kw_less, regulated, ufr_for_pfr, pfr_for_ufr, two_units, Holds, ByReserves}
use Rattle.cases.specs.Trade.{pooled, Trades}
use Rattle.cases.specs.Worked.{Worked, claimed, sale}
use Rattle.cases.proofs.Charge.{loads_divided, charge_charges}

on_either : (P : Side → Type 0) → P Snapshot → P Adjusted → (side : Side) → P side
on_either P s a Snapshot = s
on_either P s a Adjusted = a

is_both : {b : Both} {f : (View → ℕ) → ℕ} → b.grouped ≡ f grouped → b.sub_type ≡ f sub_type → IsBoth b f
is_both g s = record { grouped = g; subtype = s }

pub nothing_holds : Holds nothing
unfolding reserve
nothing_holds = record { values = on_either _ (is_both refl refl) (is_both refl refl); shorts = is_both refl refl }

pub bare_load_holds : Holds bare_load
unfolding reserve
bare_load_holds = record { values = on_either _ (is_both refl refl) (is_both refl refl); shorts = is_both refl refl }

pub served_load_holds : Holds served_load
unfolding reserve
served_load_holds = record { values = on_either _ (is_both refl refl) (is_both refl refl); shorts = is_both refl refl }

pub one_kw_less_holds : Holds one_kw_less
unfolding reserve
one_kw_less_holds = record { values = on_either _ (is_both refl refl) (is_both refl refl); shorts = is_both refl refl }

pub regulated_holds : Holds regulated
unfolding reserve
regulated_holds = record { values = on_either _ (is_both refl refl) (is_both refl refl); shorts = is_both refl refl }

pub ufr_for_pfr_holds : Holds ufr_for_pfr
unfolding reserve
ufr_for_pfr_holds = record { values = on_either _ (is_both refl refl) (is_both refl refl); shorts = is_both refl refl }

pub pfr_for_ufr_holds : Holds pfr_for_ufr
unfolding reserve
pfr_for_ufr_holds = record { values = on_either _ (is_both refl refl) (is_both refl refl); shorts = is_both refl refl }

pub two_units_hold : Holds two_units
unfolding reserve
two_units_hold = record { values = on_either _ (is_both refl refl) (is_both refl refl); shorts = is_both refl refl }

regulated_by_reserves : ByReserves regulated
unfolding reserve
regulated_by_reserves = record { overall = on_either _ refl refl; grouped = on_either _ refl refl; subtype = on_either _ refl refl }

ufr_for_pfr_by_reserves : ByReserves ufr_for_pfr
unfolding reserve
ufr_for_pfr_by_reserves = record { overall = on_either _ refl refl; grouped = on_either _ refl refl; subtype = on_either _ refl refl }

pfr_for_ufr_by_reserves : ByReserves pfr_for_ufr
unfolding reserve
pfr_for_ufr_by_reserves = record { overall = on_either _ refl refl; grouped = on_either _ refl refl; subtype = on_either _ refl refl }

two_units_by_reserves : ByReserves two_units
unfolding reserve
two_units_by_reserves = record { overall = on_either _ refl refl; grouped = on_either _ refl refl; subtype = on_either _ refl refl }

pub pooled_holds : Holds pooled
unfolding reserve
pooled_holds = record { values = on_either _ (is_both refl refl) (is_both refl refl); shorts = is_both refl refl }

pub sale_trades : Trades sale
unfolding reserve
sale_trades = record {
  before = record { grouped = refl; subtype = refl };
  buyer = record { grouped = refl; subtype = refl };
  seller = record { grouped = refl; subtype = refl };
  poolbefore = record { grouped = refl; subtype = refl };
  pool = record { grouped = refl; subtype = refl };
}

pub worked : Worked claimed
worked = record {
  values = refl;
  held = (nothing_holds, (bare_load_holds, (served_load_holds, (one_kw_less_holds, (regulated_holds, (ufr_for_pfr_holds, (pfr_for_ufr_holds, (two_units_hold, tt))))))));
  reserves = (regulated_by_reserves, (ufr_for_pfr_by_reserves, (pfr_for_ufr_by_reserves, (two_units_by_reserves, tt))));
  traded = sale_trades;
  even = λ old new given e none d. loads_divided 100 _ old new given none e (omega arith) d;
  oneweight = λ old new given e none d. loads_divided 7 _ old new given none e (omega arith) d;
  charged = charge_charges;
}
