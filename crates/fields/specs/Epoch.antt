-- Epochs, YY:DDD:SSSSS.
use Rattle.std.specs.Prelude.{◌≡◌, ℕ, zero, suc, ◌+◌, ◌-◌, ◌*◌, ◌%◌, ◌≤◌, cond, ◌&&◌, List, ◌∷◌, ◌++◌, length, take, drop, Some, None, Ok, Err, Option, Result, ◌==◌, nat_le, slice_index}
use Rattle.std.specs.declared.cmp.Ordering.TheVariants.{Less, Equal, Greater}
use Rattle.std.specs.declared.cmp.Ordering.{Ordering}
use Rattle.std.specs.Ordering.{ordering_then, nat_cmp}
use Rattle.decimals.specs.Numeral.{numeral}
use Rattle.decimals.specs.Write.{fixed}
use Rattle.refusals.specs.declared.Fault.{Fault}
use Rattle.refusals.specs.declared.Fault.TheVariants.{WrongEpoch}
use Rattle.codes.specs.Order.{TotalOrder}
use Rattle.fields.specs.declared.epochs.Epoch.{Epoch}
use Rattle.fields.specs.declared.epochs.Epoch.TheVariants.{Open, At}
use Rattle.fields.specs.declared.epochs.Moment.{Moment}

-- two digits up to 50 are of the 21st century, the others of the 20th
abbrev pub full_year : ℕ → ℕ
full_year y = cond (nat_le y 50) (2000 + y) (1900 + y)

-- every fourth year is a leap year
abbrev pub days_in : ℕ → ℕ
days_in year = cond (year % 4 == 0) 366 365

-- the epoch with two digits of a year, a day and a second
abbrev pub epoch_at : ℕ → ℕ → ℕ → Result Epoch Fault
epoch_at y d s = cond (y == 0 && (d == 0 && s == 0)) (Ok Open)
    (cond (nat_le 1 d && (nat_le d (days_in (full_year y)) && nat_le s 86399)) (Ok (At (record { year = full_year y; day = d; second = s }))) (Err WrongEpoch))

abbrev pub epoch_of : Option ℕ → Option ℕ → Option ℕ → Result Epoch Fault
epoch_of (Some y) (Some d) (Some s) = epoch_at y d s
epoch_of (Some y) (Some d) None = Err WrongEpoch
epoch_of (Some y) None s = Err WrongEpoch
epoch_of None d s = Err WrongEpoch

abbrev pub read_epoch : List ℕ → Result Epoch Fault
read_epoch bs = cond (length bs == 12 && (slice_index bs 2 == 58 && slice_index bs 6 == 58))
    (epoch_of (numeral (take 2 bs)) (numeral (take 3 (drop 3 bs))) (numeral (take 5 (drop 7 bs)))) (Err WrongEpoch)

-- an epoch that is not open
abbrev pub moment_of : Result Epoch Fault → Result Moment Fault
moment_of (Ok Open) = Err WrongEpoch
moment_of (Ok (At m)) = Ok m
moment_of (Err e) = Err e

abbrev pub read_moment : List ℕ → Result Moment Fault
read_moment bs = moment_of (read_epoch bs)

abbrev pub stamp : ℕ → ℕ → ℕ → List ℕ
stamp y d s = fixed 2 y ++ (58 ∷ (fixed 3 d ++ (58 ∷ fixed 5 s)))

abbrev pub moment_text : Moment → List ℕ
moment_text m = stamp m.year m.day m.second

abbrev pub epoch_text : Epoch → List ℕ
epoch_text Open = stamp 0 0 0
epoch_text (At m) = moment_text m

-- by full year, day, second
abbrev pub moment_order : Moment → Moment → Ordering
moment_order a b = ordering_then (nat_cmp a.year b.year) (ordering_then (nat_cmp a.day b.day) (nat_cmp a.second b.second))

-- open comes first
abbrev pub epoch_order : Epoch → Epoch → Ordering
epoch_order Open Open = Equal
epoch_order Open (At b) = Less
epoch_order (At a) Open = Greater
epoch_order (At a) (At b) = moment_order a b

-- a moment that the calendar of two-digit years has
abbrev pub Dated : Moment → Type 0
Dated m = (1951 ≤ m.year) × (m.year ≤ 2050) × (1 ≤ m.day) × (m.day ≤ days_in m.year) × (m.second ≤ 86399)

abbrev pub DatedEpoch : Epoch → Type 0
DatedEpoch Open = Unit {0}
DatedEpoch (At m) = Dated m

-- what reading gives the calendar has, and what is written of it is read as that same epoch
abbrev pub EpochsComeBack : Type 0
EpochsComeBack = ((bs : List ℕ) (e : Epoch) → read_epoch bs ≡ Ok e → DatedEpoch e)
    × ((e : Epoch) → DatedEpoch e → read_epoch (epoch_text e) ≡ Ok e)

abbrev pub MomentsComeBack : Type 0
MomentsComeBack = ((bs : List ℕ) (m : Moment) → read_moment bs ≡ Ok m → Dated m)
    × ((m : Moment) → Dated m → read_moment (moment_text m) ≡ Ok m)

-- the days of the first n years from 1951 on
abbrev pub days_of : ℕ → ℕ
days_of zero = 0
days_of (suc n) = days_of n + days_in (1951 + n)

-- the seconds from the start of 1951 to a moment
abbrev pub instant : Moment → ℕ
instant m = (days_of (m.year - 1951) + (m.day - 1)) * 86400 + m.second

-- the order of moments is that of time
abbrev pub OrderOfTime : Type 0
OrderOfTime = (a b : Moment) → Dated a → Dated b → moment_order a b ≡ nat_cmp (instant a) (instant b)

abbrev pub EpochsAreOrdered : Type 0
EpochsAreOrdered = TotalOrder epoch_order
