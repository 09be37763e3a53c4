-- A record that was absent, put and dropped again: the solution is what it was. Assumes nothing.
use Rattle.std.specs.Cmp.{IsTotalOrder}
use Rattle.std.proofs.Common.{◌≡◌, ℕ, Bool, true, false, not, ◌&&◌, ◌||◌, List, Ok, Err, Result, Ordering, Equal, sym, refl, ap, ◌∙◌, ⊎_elim, arith}
use Rattle.codes.specs.Order.{is_equal}
use Rattle.model.proofs.SiteSteps.{free-site}
use Rattle.model.proofs.SpanSteps.{free_span}
use Rattle.model.proofs.Steps.{demand_yes}
use Rattle.model.proofs.Tables.{among_any, among_holds, any_among, holds-alike, holds-new, is_equal_lem, without-alike}
use Rattle.model.specs.Edits.{Drop, Put, drop_apriori, drop_site, drop_span, outcome, put_apriori, put_site, put_span, room, with_aprioris, with_sites, with_spans}
use Rattle.model.specs.Handed.{data_line, demand}
use Rattle.model.specs.Needs.{any_of, has_site, has_span, served, site_needed, span_at, span_beside, span_needed, span_on, station_at, station_on, stationed}
use Rattle.model.specs.Solutions.{Solution}
use Rattle.model.specs.States.{Kept}
use Rattle.model.specs.declared.counts.Counts.{Counts}
use Rattle.model.specs.declared.counts.Sort.TheVariants.{Site as SiteSort, Span as SpanSort, Apriori as AprioriSort}
use Rattle.records.specs.KeyOrders.{parameter_order_lem, site_keys, site_order_lem, solution_keys, span_order_lem}
use Rattle.record_laws.proofs.Naming.{parameters_are_named, sites_are_named, spans_are_named}
use Rattle.headings.specs.Lines.{and_then}
use Rattle.records.specs.Keys.{site_key_order, solution_key_order}
use Rattle.records.specs.Parameters.{parameter_named, parameter_order, parameter_with, read_parameter}
use Rattle.records.specs.Sites.{read_site, site_named, site_order, site_with}
use Rattle.records.specs.Spans.{read_span, span_named, span_order, span_with}
use Rattle.records.specs.declared.keys.SiteKey.{SiteKey}
use Rattle.records.specs.declared.parameters.Parameter.{Parameter}
use Rattle.records.specs.declared.sites.Site.{Site}
use Rattle.records.specs.declared.spans.Span.{Span}
use Rattle.refusals.specs.declared.Fault.{Fault}
use Rattle.refusals.specs.declared.Fault.TheVariants.{NeedMissing, RecordAbsent, StillNeeded}
use Rattle.std.proofs.lemmas.Bool.{and_from, and_left, and_parts, and_right, both_ways, cases_Bool, not_from_false, not_from_true, or_cases, or_from}
use Rattle.tables.proofs.Edits.{back_law, put_law}
use Rattle.std.proofs.lemmas.Cmp.{tied_itself}
use Rattle.tables.specs.Keys.{Rising}
use Rattle.tables.specs.Laws.{Among}
use Rattle.tables.specs.Lists.{holds, put, without}

-- ---- steps that were taken

pub never_ok : {A : Type 0} (f : Fault) (a : A) → ◌≡◌ {A = Result A Fault} (Err f) (Ok a) → ⊥
never_ok f a e = let z : ◌≡◌ {A = ℕ} 0 1 = cc in omega arith

ok_same : {A : Type 0} (a b : A) → ◌≡◌ {A = Result A Fault} (Ok a) (Ok b) → a ≡ b
ok_same a b e = cc

-- what was accepted passed its first step
pub then_given : {A B : Type 0} (r : Result A Fault) (f : A → Result B Fault) (t : B) → and_then r f ≡ Ok t → (a : A) × (r ≡ Ok a) × (f a ≡ Ok t)
then_given (Ok a) f t e = (a, refl, e)
then_given (Err x) f t e = absurd (never_ok x t e)

pub then_is : {A B : Type 0} (r : Result A Fault) (f : A → Result B Fault) (a : A) → r ≡ Ok a → and_then r f ≡ f a
then_is r f a e = ap (λ t. and_then t f) e

-- an edit that was accepted gave what it gives
room-given : {S : Type 0} (d : Result (Unit {0}) Fault) (u t : S) → and_then d (λ _. Ok u) ≡ Ok t → u ≡ t
room-given d u t e = let (a, p, q) = then_given d (λ _. Ok u) t e in ok_same u t q

need_given : {S : Type 0} (b : Bool) (d : Result (Unit {0}) Fault) (u t : S) → and_then (demand NeedMissing b) (λ _. and_then d (λ _. Ok u)) ≡ Ok t → u ≡ t
need_given b d u t e = let (a, p, q) = then_given (demand NeedMissing b) (λ _. and_then d (λ _. Ok u)) t e in room-given d u t q

-- refused as absent, before another test: it is absent
absent_by : {S : Type 0} (b c : Bool) (t : S) → and_then (demand RecordAbsent b) (λ _. and_then (demand StillNeeded c) (λ _. Ok t)) ≡ Err RecordAbsent → b ≡ false
absent_by true true t e = absurd (never_ok RecordAbsent t (sym e))
absent_by true false t e = let z : ◌≡◌ {A = ℕ} 0 1 = cc in absurd (omega arith)
absent_by false c t e = refl

absent_by_one : {S : Type 0} (b : Bool) (t : S) → and_then (demand RecordAbsent b) (λ _. Ok t) ≡ Err RecordAbsent → b ≡ false
absent_by_one true t e = absurd (never_ok RecordAbsent t (sym e))
absent_by_one false t e = refl

-- ---- the list

-- a record q of r's key that the list lacks: it is there after r is put, and to drop it leaves the list as it was
module _ {R : Type 0} (cmp : R → R → Ordering) (o : IsTotalOrder cmp) (q r : R) (alike : (y : R) → cmp y q ≡ cmp y r) (xs : List R) (up : Rising cmp xs) (none : holds cmp q xs ≡ false) where
  pub put_there : holds cmp q (put cmp r xs) ≡ true
  put_there = holds-new cmp o q r xs up (alike r ∙ tied_itself o r)

  pub put_undone : without cmp q (put cmp r xs) ≡ xs
  put_undone = without-alike cmp q r alike (put cmp r xs) ∙ back_law cmp o r xs up (sym (holds-alike cmp q r alike xs) ∙ none)

-- ---- sites

served_site_by : (st a b : Bool) → (not st || (a && b)) ≡ true → st ≡ true → (a ≡ true) × (b ≡ true)
served_site_by true a b e t = and_parts a b e
served_site_by false a b e t = absurd (both_ways false refl t)

-- what a parameter of a station needs
pub served_has : (s : Solution) (p : Parameter) → served s p ≡ true → stationed p ≡ true → (has_site s p.key.at.site ≡ true) × (has_span s p.key.at ≡ true)
served_has s p = served_site_by (stationed p) (has_site s p.key.at.site) (has_span s p.key.at)

none_of : {R : Type 0} (f : R → Bool) (xs : List R) → ((y : R) → Among y xs → f y ≡ true → ⊥) → any_of f xs ≡ false
none_of f xs h = ⊎_elim (λ e. let (y, m, q) = any_among f xs e in absurd (h y m q)) (λ e. e) (cases_Bool (any_of f xs))

module _ (s : Solution) (kept : Kept s) (k : SiteKey) (none : has_site s k ≡ false) where
  elsewhere : (key : SiteKey) → is_equal (site_key_order key k) ≡ true → has_site s key ≡ true → ⊥
  elsewhere key e h =
      let same : key ≡ k = site_keys.same key k (is_equal_lem (site_key_order key k) e) in
      both_ways (has_site s k) none (ap (has_site s) (sym same) ∙ h)

  station_elsewhere : (p : Parameter) → served s p ≡ true → station_on k p ≡ true → ⊥
  station_elsewhere p h e =
      let (st, on) = and_parts (stationed p) (is_equal (site_key_order p.key.at.site k)) e in
      elsewhere p.key.at.site on (served_has s p h st).0

  -- nothing needs a site that is absent
  pub absent_free : site_needed s k ≡ false
  absent_free =
      or_from (any_of (span_on k) s.spans) (any_of (station_on k) s.estimates || any_of (station_on k) s.aprioris)
      (none_of (span_on k) s.spans (λ y m e. elsewhere y.key.at.site e (kept.needs.spans y m)))
      (or_from (any_of (station_on k) s.estimates) (any_of (station_on k) s.aprioris)
      (none_of (station_on k) s.estimates (λ p m. station_elsewhere p (kept.needs.estimates p m)))
      (none_of (station_on k) s.aprioris (λ p m. station_elsewhere p (kept.needs.aprioris p m))))

site_undone : (r : Site) (s : Solution) → Kept s → holds site_order (site_with r.key) s.sites ≡ false
    → drop_site (with_sites s (put site_order r s.sites)) (site_with r.key) ≡ Ok s
site_undone r s k none =
    let q = site_with r.key in
    let t = with_sites s (put site_order r s.sites) in
    let up = k.ordered.sites in
    free-site q t (absent_free s k r.key none)
    ∙ demand_yes RecordAbsent (holds site_order q t.sites) _ (put_there site_order site_order_lem q r (λ y. refl) s.sites up none)
    ∙ ap (λ zs. Ok (with_sites s zs)) (put_undone site_order site_order_lem q r (λ y. refl) s.sites up none)

pub site_put_drop : (P : Counts) (s t : Solution) (bs : List ℕ) → Kept s → outcome P s (Drop SiteSort bs) ≡ Err RecordAbsent → outcome P s (Put SiteSort bs) ≡ Ok t
    → outcome P t (Drop SiteSort bs) ≡ Ok s
site_put_drop P s t bs k gone e =
    let (line, d, f) = then_given (data_line bs) (λ line. and_then (read_site line) (put_site P s)) t e in
    let (r, read, made) = then_given (read_site line) (put_site P s) t f in
    let q = site_with r.key in
    let named : site_named line ≡ Ok q = sites_are_named line r read in
    let drops : (u : Solution) → outcome P u (Drop SiteSort bs) ≡ drop_site u q =
    λ u. then_is (data_line bs) (λ line. and_then (site_named line) (drop_site u)) line d ∙ then_is (site_named line) (drop_site u) q named in
    let none : holds site_order q s.sites ≡ false = absent_by (holds site_order q s.sites) (not (site_needed s q.key)) _ (sym (drops s) ∙ gone) in
    let is : with_sites s (put site_order r s.sites) ≡ t = room-given (room site_order r P.sites s.sites) (with_sites s (put site_order r s.sites)) t made in
    drops t ∙ ap (λ u. drop_site u q) (sym is) ∙ site_undone r s k none

-- ---- spans

pub not_equal : (q : Ordering) → (q ≡ Equal → ⊥) → is_equal q ≡ false
not_equal q n = ⊎_elim (λ e. absurd (n (is_equal_lem q e))) (λ e. e) (cases_Bool (is_equal q))

module _ (r : Span) (s : Solution) (kept : Kept s) (none : holds span_order (span_with r.key) s.spans ≡ false) where
  -- a parameter of a station that needs a span of r's solution has another one
  station_beside : (p : Parameter) → served s p ≡ true → station_at r.key.at p ≡ true → any_of (span_beside (span_with r.key)) (put span_order r s.spans) ≡ true
  station_beside p h e =
      let up = kept.ordered.spans in
      let (st, at) = and_parts (stationed p) (is_equal (solution_key_order p.key.at r.key.at)) e in
      let same : p.key.at ≡ r.key.at = solution_keys.same p.key.at r.key.at (is_equal_lem (solution_key_order p.key.at r.key.at) at) in
      let (y, m, on) = any_among (span_at p.key.at) s.spans (served_has s p h st).1 in
      let other : span_order y r ≡ Equal → ⊥ =
      λ q. both_ways (holds span_order (span_with r.key) s.spans) none (among_holds span_order span_order_lem (span_with r.key) s.spans y up m q) in
      among_any (span_beside (span_with r.key)) (put span_order r s.spans) y ((put_law span_order span_order_lem r s.spans up).kept y m other)
      (and_from (span_at r.key.at y) (not (is_equal (span_order y r))) (ap (λ k. span_at k y) (sym same) ∙ on) (not_from_false (is_equal (span_order y r)) (not_equal (span_order y r) other)))

  -- nothing needs a span that was absent and is put
  put-free : span_needed (with_spans s (put span_order r s.spans)) (span_with r.key) ≡ false
  put-free =
      let beside = any_of (span_beside (span_with r.key)) (put span_order r s.spans) in
      let f = station_at r.key.at in
      let all = any_of f s.estimates || any_of f s.aprioris in
      ⊎_elim
      (λ e. and_left (not beside) all (not_from_true beside
      (⊎_elim (λ h. let (p, m, q) = any_among f s.estimates h in station_beside p (kept.needs.estimates p m) q)
      (λ h. let (p, m, q) = any_among f s.aprioris h in station_beside p (kept.needs.aprioris p m) q)
      (or_cases (any_of f s.estimates) (any_of f s.aprioris) e))))
      (λ e. and_right (not beside) all e)
      (cases_Bool all)

  span_undone : drop_span (with_spans s (put span_order r s.spans)) (span_with r.key) ≡ Ok s
  span_undone =
      let q = span_with r.key in
      let t = with_spans s (put span_order r s.spans) in
      let up = kept.ordered.spans in
      free_span q t put-free
      ∙ demand_yes RecordAbsent (holds span_order q t.spans) _ (put_there span_order span_order_lem q r (λ y. refl) s.spans up none)
      ∙ ap (λ zs. Ok (with_spans s zs)) (put_undone span_order span_order_lem q r (λ y. refl) s.spans up none)

pub span_put_drop : (P : Counts) (s t : Solution) (bs : List ℕ) → Kept s → outcome P s (Drop SpanSort bs) ≡ Err RecordAbsent → outcome P s (Put SpanSort bs) ≡ Ok t
    → outcome P t (Drop SpanSort bs) ≡ Ok s
span_put_drop P s t bs k gone e =
    let (line, d, f) = then_given (data_line bs) (λ line. and_then (read_span line) (put_span P s)) t e in
    let (r, read, made) = then_given (read_span line) (put_span P s) t f in
    let q = span_with r.key in
    let named : span_named line ≡ Ok q = spans_are_named line r read in
    let drops : (u : Solution) → outcome P u (Drop SpanSort bs) ≡ drop_span u q =
    λ u. then_is (data_line bs) (λ line. and_then (span_named line) (drop_span u)) line d ∙ then_is (span_named line) (drop_span u) q named in
    let none : holds span_order q s.spans ≡ false = absent_by (holds span_order q s.spans) (not (span_needed s q)) _ (sym (drops s) ∙ gone) in
    let is : with_spans s (put span_order r s.spans) ≡ t =
    need_given (has_site s r.key.at.site) (room span_order r P.spans s.spans) (with_spans s (put span_order r s.spans)) t made in
    drops t ∙ ap (λ u. drop_span u q) (sym is) ∙ span_undone r s k none

-- ---- a prioris

apriori_undone : (r : Parameter) (s : Solution) → Kept s → holds parameter_order (parameter_with r.key) s.aprioris ≡ false
    → drop_apriori (with_aprioris s (put parameter_order r s.aprioris)) (parameter_with r.key) ≡ Ok s
apriori_undone r s k none =
    let q = parameter_with r.key in
    let up = k.ordered.aprioris in
    demand_yes RecordAbsent (holds parameter_order q (put parameter_order r s.aprioris)) _ (put_there parameter_order parameter_order_lem q r (λ y. refl) s.aprioris up none)
    ∙ ap (λ zs. Ok (with_aprioris s zs)) (put_undone parameter_order parameter_order_lem q r (λ y. refl) s.aprioris up none)

pub apriori_put_drop : (P : Counts) (s t : Solution) (bs : List ℕ) → Kept s → outcome P s (Drop AprioriSort bs) ≡ Err RecordAbsent → outcome P s (Put AprioriSort bs) ≡ Ok t
    → outcome P t (Drop AprioriSort bs) ≡ Ok s
apriori_put_drop P s t bs k gone e =
    let (line, d, f) = then_given (data_line bs) (λ line. and_then (read_parameter line) (put_apriori P s)) t e in
    let (r, read, made) = then_given (read_parameter line) (put_apriori P s) t f in
    let q = parameter_with r.key in
    let named : parameter_named line ≡ Ok q = parameters_are_named line r read in
    let drops : (u : Solution) → outcome P u (Drop AprioriSort bs) ≡ drop_apriori u q =
    λ u. then_is (data_line bs) (λ line. and_then (parameter_named line) (drop_apriori u)) line d ∙ then_is (parameter_named line) (drop_apriori u) q named in
    let none : holds parameter_order q s.aprioris ≡ false = absent_by_one (holds parameter_order q s.aprioris) _ (sym (drops s) ∙ gone) in
    let is : with_aprioris s (put parameter_order r s.aprioris) ≡ t =
    need_given (served s r) (room parameter_order r P.aprioris s.aprioris) (with_aprioris s (put parameter_order r s.aprioris)) t made in
    drops t ∙ ap (λ u. drop_apriori u q) (sym is) ∙ apriori_undone r s k none
