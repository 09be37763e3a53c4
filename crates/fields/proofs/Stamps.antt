-- Epochs: what is written is read, and their order is that of time.
use Rattle.std.proofs.Common.{◌≡◌, ℕ, zero, suc, ◌+◌, ◌-◌, ◌%◌, ◌<◌, ◌≤◌, Bool, cond, ◌&&◌, eqb, leb, List, length, get_or, take, drop, Some, None, Ok, Err, Option, Result, Less, Equal, refl, ap, ◌∙◌, subst, ⊎_elim, mod-eq_of_lt, arith}
use Rattle.std.specs.Ordering.{ordering_then, ordering_reverse, nat_cmp}
use Rattle.std.proofs.lemmas.Bool.{cond-true, cond-false, cond_both, ne_eqb, and_left, and_right, and_from, and_parts, le-leb, leb-true, cases_eq}
use Rattle.std.proofs.lemmas.Bool.Decides.{nat_tests}
use Rattle.std.proofs.lemmas.Grind.{common_steps}
use Rattle.std.proofs.Common.{rules}
use Rattle.std.proofs.lemmas.List.{length-take}
use Rattle.decimals.specs.Numeral.{numeral}
use Rattle.decimals.specs.Write.{fixed}
use Rattle.decimals.proofs.Runs.{Below, numeral-fixed, numeral-below}
use Rattle.refusals.specs.declared.Fault.{Fault}
use Rattle.refusals.specs.declared.Fault.TheVariants.{WrongEpoch}
use Rattle.fields.specs.Epoch.{full_year, days_in, epoch_at, epoch_of, read_epoch, moment_of, stamp, epoch_text, moment_order, epoch_order, Dated, DatedEpoch, EpochsComeBack, MomentsComeBack, days_of, instant, OrderOfTime, EpochsAreOrdered}
use Rattle.fields.specs.declared.epochs.Epoch.{Epoch}
use Rattle.fields.specs.declared.epochs.Epoch.TheVariants.{Open, At}
use Rattle.fields.specs.declared.epochs.Moment.{Moment}
use Rattle.decimals.proofs.Faults.{no_fault}
use Rattle.codes.proofs.Comparing.{then_order, rank_order}
use Rattle.codes.specs.Order.{TotalOrder}

-- whether the text has twelve bytes, with colons where they belong
abbrev pub dotted : List ℕ → Bool
dotted bs = eqb (length bs) 12 && (eqb (get_or bs 2 0) 58 && eqb (get_or bs 6 0) 58)

-- ---- what is written is read

stamp_read : (y d s : ℕ) → read_epoch (stamp y d s) ≡ epoch_at (y % 100) (d % 1000) (s % 100000)
stamp_read y d s =
    ap (λ o. epoch_of o (numeral (fixed 3 d)) (numeral (fixed 5 s))) (numeral-fixed 2 y (omega arith) (omega arith))
    ∙ (ap (λ o. epoch_of (Some (y % 100)) o (numeral (fixed 5 s))) (numeral-fixed 3 d (omega arith) (omega arith))
    ∙ ap (λ o. epoch_of (Some (y % 100)) (Some (d % 1000)) o) (numeral-fixed 5 s (omega arith) (omega arith)))

year_back : (y : ℕ) → 1951 ≤ y → y ≤ 2050 → full_year (y % 100) ≡ y
year_back y a b = grind (arith, nat_tests)

days_small : (y : ℕ) → days_in y ≤ 366
days_small y = grind (arith, nat_tests)

epoch-back : (e : Epoch) → DatedEpoch e → read_epoch (epoch_text e) ≡ Ok e
epoch-back Open w = stamp_read 0 0 0
epoch-back (At m) w =
    let y = year_back m.year w.0 w.1 in
    let ds = days_small m.year in
    let d : m.day % 1000 ≡ m.day = mod-eq_of_lt (omega (arith, w.3)) in
    let s : m.second % 100000 ≡ m.second = mod-eq_of_lt (omega (arith, w.4)) in
    stamp_read m.year m.day m.second
    ∙ (ap (λ x. epoch_at (m.year % 100) x (m.second % 100000)) d
    ∙ (ap (λ x. epoch_at (m.year % 100) m.day x) s
    ∙ (cond-false _ _ _ (and_right (eqb (m.year % 100) 0) (eqb m.day 0 && eqb m.second 0) (and_left (eqb m.day 0) (eqb m.second 0) (ne_eqb m.day 0 (λ z. omega (arith, w.2)))))
    ∙ (ap (λ x. cond (leb 1 m.day && (leb m.day (days_in x) && leb m.second 86399)) (Ok (At (record { year = x; day = m.day; second = m.second }))) (Err WrongEpoch)) y
    ∙ cond-true _ _ _ (and_from _ _ (le-leb 1 m.day w.2) (and_from _ _ (le-leb m.day (days_in m.year) w.3) (le-leb m.second 86399 w.4)))))))

-- ---- what is read the calendar has

abbrev Good : Result Epoch Fault → Type 0
Good (Ok e) = DatedEpoch e
Good (Err e) = Unit {0}

year_range : (y : ℕ) → y < 100 → (1951 ≤ full_year y) × (full_year y ≤ 2050)
year_range y h = (grind (arith, nat_tests), grind (arith, nat_tests))

at-good : (y d s : ℕ) → y < 100 → Good (epoch_at y d s)
at-good y d s h =
    cond_both (eqb y 0 && (eqb d 0 && eqb s 0)) (Ok Open) (cond (leb 1 d && (leb d (days_in (full_year y)) && leb s 86399)) (Ok (At (record { year = full_year y; day = d; second = s }))) (Err WrongEpoch)) Good
    (λ _. tt)
    (λ _. cond_both (leb 1 d && (leb d (days_in (full_year y)) && leb s 86399)) (Ok (At (record { year = full_year y; day = d; second = s }))) (Err WrongEpoch) Good
    (λ t.
    let p = and_parts (leb 1 d) (leb d (days_in (full_year y)) && leb s 86399) t in
    let q = and_parts (leb d (days_in (full_year y))) (leb s 86399) p.1 in
    let r = year_range y h in
    (r.0, r.1, leb-true 1 d p.0, leb-true d (days_in (full_year y)) q.0, leb-true s 86399 q.1))
    (λ _. tt))

of_good : (y d s : Option ℕ) → Below 100 y → Good (epoch_of y d s)
of_good (Some y) (Some d) (Some s) h = at-good y d s h
of_good (Some y) (Some d) None h = tt
of_good (Some y) None s h = tt
of_good None d s h = tt

read_good : (bs : List ℕ) → Good (read_epoch bs)
read_good bs = cond_both (dotted bs) (epoch_of (numeral (take 2 bs)) (numeral (take 3 (drop 3 bs))) (numeral (take 5 (drop 7 bs)))) (Err WrongEpoch) Good
    (λ _. of_good (numeral (take 2 bs)) (numeral (take 3 (drop 3 bs))) (numeral (take 5 (drop 7 bs))) (numeral-below (take 2 bs) 2 (omega (arith, length-take 2 bs))))
    (λ _. tt)

pub epochs_come_back : EpochsComeBack
epochs_come_back = (λ bs e x. subst Good x (read_good bs), epoch-back)

moment_good : (r : Result Epoch Fault) (m : Moment) → Good r → moment_of r ≡ Ok m → Dated m
moment_good (Ok Open) m g x = absurd (no_fault WrongEpoch m x)
moment_good (Ok (At n)) m g x = let e : n ≡ m = cc in subst Dated e g
moment_good (Err e) m g x = absurd (no_fault e m x)

pub moments_come_back : MomentsComeBack
moments_come_back = (λ bs m x. moment_good (read_epoch bs) m (read_good bs) x, λ m w. ap moment_of (epoch-back (At m) w))

-- ---- order

same_moment : (a b : Moment) → a.year ≡ b.year → a.day ≡ b.day → a.second ≡ b.second → a ≡ b
same_moment a b x y z = ap (λ t. record { year = t; day = a.day; second = a.second }) x ∙ (ap (λ t. record { year = b.year; day = t; second = a.second }) y ∙ ap (λ t. record { year = b.year; day = b.day; second = t }) z)

day-second : TotalOrder (λ (x y : ℕ × ℕ). ordering_then (nat_cmp x.0 y.0) (nat_cmp x.1 y.1))
day-second = then_order (λ (x : ℕ × ℕ). x.0) (λ x. x.1) nat_cmp nat_cmp rank_order rank_order (λ x y p q. ap (λ t. (t, x.1)) p ∙ ap (λ t. (y.0, t)) q)

moments_are_ordered : TotalOrder moment_order
moments_are_ordered = then_order (λ (m : Moment). m.year) (λ m. (m.day, m.second)) nat_cmp (λ x y. ordering_then (nat_cmp x.0 y.0) (nat_cmp x.1 y.1)) rank_order day-second
    (λ a b p q. same_moment a b p (ap (λ t. t.0) q) (ap (λ t. t.1) q))

epoch-flip : (a b : Epoch) → epoch_order a b ≡ ordering_reverse (epoch_order b a)
epoch-flip Open Open = refl
epoch-flip Open (At b) = refl
epoch-flip (At a) Open = refl
epoch-flip (At a) (At b) = moments_are_ordered.flip a b

epoch-trans : (a b c : Epoch) → epoch_order a b ≡ Less → epoch_order b c ≡ Less → epoch_order a c ≡ Less
epoch-trans Open Open c p q = q
epoch-trans Open (At b) Open p q = search rules
epoch-trans Open (At b) (At c) p q = refl
epoch-trans (At a) Open c p q = search rules
epoch-trans (At a) (At b) Open p q = q
epoch-trans (At a) (At b) (At c) p q = moments_are_ordered.trans a b c p q

epoch-same : (a b : Epoch) → epoch_order a b ≡ Equal → a ≡ b
epoch-same Open Open e = refl
epoch-same Open (At b) e = search rules
epoch-same (At a) Open e = search rules
epoch-same (At a) (At b) e = ap At (moments_are_ordered.same a b e)

pub epochs_are_ordered : EpochsAreOrdered
epochs_are_ordered = record { flip = epoch-flip; trans = epoch-trans; same = epoch-same }

-- ---- time

-- a whole year lies between a year and a later one
days_more : (m n : ℕ) → m < n → days_of m + days_in (1951 + m) ≤ days_of n
days_more m zero h = absurd (omega arith)
days_more m (suc n) h = ⊎_elim (λ e. omega (arith, ap days_of e, ap (λ k. days_in (1951 + k)) e)) (λ l. omega (arith, days_more m n (omega arith))) (cases_eq m n)

by_year : (a b : Moment) → Dated a → Dated b → a.year < b.year → instant a < instant b
by_year a b v w h =
    let x : 1951 + (a.year - 1951) ≡ a.year = omega (arith, v.0) in
    let m = days_more (a.year - 1951) (b.year - 1951) (omega (arith, v.0, w.0)) in
    let y : days_in (1951 + (a.year - 1951)) ≡ days_in a.year = ap days_in x in
    omega (arith, v.2, v.3, v.4, w.2)

by_day : (a b : Moment) → Dated a → Dated b → a.year ≡ b.year → a.day < b.day → instant a < instant b
by_day a b v w e h = let x = ap (λ y. days_of (y - 1951)) e in omega (arith, v.2, v.4, w.2)

by_second : (a b : Moment) → a.year ≡ b.year → a.day ≡ b.day → a.second < b.second → instant a < instant b
by_second a b e f h = let x = ap (λ y. days_of (y - 1951)) e in omega arith

pub order_of_time : OrderOfTime
order_of_time a b v w =
    let y = by_year a b v w in
    let y' = by_year b a w v in
    let d = by_day a b v w in
    let d' = by_day b a w v in
    let s = by_second a b in
    let s' = by_second b a in
    let e : a.year ≡ b.year → a.day ≡ b.day → a.second ≡ b.second → instant a ≡ instant b = λ p q r. ap instant (same_moment a b p q r) in
    grind (arith, common_steps)
