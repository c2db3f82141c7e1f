-- The limits of figures: kW, kWh and cents. Each stands here once; src/limits.rt has those that code reads.
use Rattle.std.specs.Prelude.{ℕ, ◌≤◌, List, ℤ, pos, negsuc, slice_index}

abbrev pub max_power : ℕ
max_power = 10000000

-- a signed figure lies between these two
abbrev pub lowest_power : ℤ
lowest_power = negsuc 9999999

abbrev pub highest_power : ℤ
highest_power = pos max_power

abbrev pub max_kwh : ℕ
max_kwh = 1000000

abbrev pub max_cents : ℕ
max_cents = 1000000000000

abbrev pub max_shortfall : ℕ
max_shortfall = 4000000000

-- most QSEs of a book
abbrev pub max_qses : ℕ
max_qses = 64

-- most rows of a table of loads, resources or trades
abbrev pub max_rows : ℕ
max_rows = 512

-- the greatest number of a QSE, of a settlement point, and of a book
abbrev pub max_number : ℕ
max_number = 65535

abbrev pub max_point : ℕ
max_point = 65535

abbrev pub max_book : ℕ
max_book = 4294967295

-- what a measure may give an account of limited rows, or a pool of them, in kW
abbrev pub max_value : ℕ
max_value = 1000000000000

-- a claim: its cents, its rate in cents per MW, and how many a book makes
abbrev pub max_cost : ℕ
max_cost = 1000000000

abbrev pub max_rate : ℕ
max_rate = 1000000

abbrev pub max_claims : ℕ
max_claims = 1000

-- each is a power figure
abbrev pub Powers : List ℕ → Type 0
Powers xs = (k : ℕ) → slice_index xs k ≤ max_power
