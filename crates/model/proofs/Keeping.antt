-- Each edit keeps what holds of every solution that a register comes to hold. Assumes nothing.
use Rattle.std.specs.Cmp.{IsTotalOrder}
use Rattle.codes.specs.Order.{is_equal}
use Rattle.model.proofs.Tables.{among_any, any_among, any_put, any_without, equal_or_not, holds-put, holds-without, is_equal_lem}
use Rattle.model.specs.Edits.{with_aprioris, with_head, with_sites, with_spans}
use Rattle.model.specs.Needs.{any_of, has_site, has_span, served, site_needed, span_at, span_beside, span_needed, span_on, station_at, station_on, stationed}
use Rattle.model.specs.Solutions.{Solution}
use Rattle.model.specs.States.{Kept, ValidHead}
use Rattle.records.specs.KeyOrders.{parameter_order_lem, site_keys, site_order_lem, solution_keys, span_keys, span_order_lem}
use Rattle.records.specs.Keys.{site_key_order, solution_key_order}
use Rattle.records.specs.Parameters.{parameter_order}
use Rattle.records.specs.Sites.{site_order, site_with}
use Rattle.records.specs.Spans.{span_order}
use Rattle.record_laws.specs.Valid.{ValidParameter, ValidSite, ValidSpan}
use Rattle.headings.specs.declared.headers.Head.{Head}
use Rattle.records.specs.declared.keys.SiteKey.{SiteKey}
use Rattle.records.specs.declared.keys.SolutionKey.{SolutionKey}
use Rattle.records.specs.declared.parameters.Parameter.{Parameter}
use Rattle.records.specs.declared.sites.Site.{Site}
use Rattle.records.specs.declared.spans.Span.{Span}
use Rattle.std.proofs.lemmas.Bool.{and_cases, and_from, and_parts, both_ways, cases_Bool, not-false, not-true, or_parts}
use Rattle.std.specs.Ordering.{ordering_reverse}
use Rattle.std.proofs.Common.{◌≡◌, Bool, true, false, not, ◌&&◌, ◌||◌, List, Option, Ordering, Equal, sym, refl, ap, ◌∙◌, subst, ap₂, ⊎_elim}
use Rattle.tables.proofs.Edits.{drop_law, put_law, rises-put, rises-without}
use Rattle.tables.specs.Keys.{Rising}
use Rattle.tables.specs.Laws.{Among}
use Rattle.tables.specs.Lists.{put, without}

-- ---- what holds of each record

module _ {R : Type 0} (cmp : R → R → Ordering) (o : IsTotalOrder cmp) (Q : R → Type 0) (r : R) (xs : List R) (up : Rising cmp xs) (all : (x : R) → Among x xs → Q x) where
  pub all_put : Q r → (x : R) → Among x (put cmp r xs) → Q x
  all_put q x m = ⊎_elim (λ (e : x ≡ r). subst Q (sym e) q) (λ old. all x old.0) ((put_law cmp o r xs up).only x m)

  pub all_without : (x : R) → Among x (without cmp r xs) → Q x
  all_without x m = all x ((drop_law cmp o r xs up).only x m).0

-- ---- needs

served_by : (st a b c d : Bool) → (st ≡ true → a ≡ true → c ≡ true) → (st ≡ true → b ≡ true → d ≡ true) → (not st || (a && b)) ≡ true → (not st || (c && d)) ≡ true
served_by true a b c d f g e = let (p, q) = and_parts a b e in and_from c d (f refl p) (g refl q)
served_by false a b c d f g e = refl

-- what serves a parameter in s serves it in t
pub served_still : (s t : Solution) (p : Parameter) → (stationed p ≡ true → has_site s p.key.at.site ≡ true → has_site t p.key.at.site ≡ true)
    → (stationed p ≡ true → has_span s p.key.at ≡ true → has_span t p.key.at ≡ true) → served s p ≡ true → served t p ≡ true
served_still s t p f g =
    served_by (stationed p) (has_site s p.key.at.site) (has_span s p.key.at) (has_site t p.key.at.site) (has_span t p.key.at) f g

-- ---- a head

pub head-kept : (h : Option Head) → ValidHead h → (s : Solution) → Kept s → Kept (with_head s h)
head-kept h v s k = record {
  ordered = record {
    sites = k.ordered.sites;
    spans = k.ordered.spans;
    estimates = k.ordered.estimates;
    aprioris = k.ordered.aprioris;
    whole = k.ordered.whole;
  };
  readable = record {
    head = v;
    sites = k.readable.sites;
    spans = k.readable.spans;
    estimates = k.readable.estimates;
    aprioris = k.readable.aprioris;
    cells = k.readable.cells;
  };
  needs = record { spans = k.needs.spans; estimates = k.needs.estimates; aprioris = k.needs.aprioris };
}

-- ---- sites

-- other sites, of which each that is needed is there
sites-kept : (ys : List Site) (s : Solution) → Rising site_order ys → ((x : Site) → Among x ys → ValidSite x)
    → ((x : Span) → Among x s.spans → has_site (with_sites s ys) x.key.at.site ≡ true)
    → ((p : Parameter) → Among p s.estimates → stationed p ≡ true → has_site s p.key.at.site ≡ true → has_site (with_sites s ys) p.key.at.site ≡ true)
    → ((p : Parameter) → Among p s.aprioris → stationed p ≡ true → has_site s p.key.at.site ≡ true → has_site (with_sites s ys) p.key.at.site ≡ true)
    → Kept s → Kept (with_sites s ys)
sites-kept ys s up valid f g h k = record {
  ordered = record {
    sites = up;
    spans = k.ordered.spans;
    estimates = k.ordered.estimates;
    aprioris = k.ordered.aprioris;
    whole = k.ordered.whole;
  };
  readable = record {
    head = k.readable.head;
    sites = valid;
    spans = k.readable.spans;
    estimates = k.readable.estimates;
    aprioris = k.readable.aprioris;
    cells = k.readable.cells;
  };
  needs = record {
    spans = f;
    estimates = λ p m. served_still s (with_sites s ys) p (g p m) (λ _ e. e) (k.needs.estimates p m);
    aprioris = λ p m. served_still s (with_sites s ys) p (h p m) (λ _ e. e) (k.needs.aprioris p m);
  };
}

pub site_put_kept : (r : Site) → ValidSite r → (s : Solution) → Kept s → Kept (with_sites s (put site_order r s.sites))
site_put_kept r v s k =
    let up = k.ordered.sites in
    let still = λ (key : SiteKey). holds-put site_order site_order_lem (site_with key) r s.sites up in
    sites-kept (put site_order r s.sites) s (rises-put site_order site_order_lem r s.sites up) (all_put site_order site_order_lem ValidSite r s.sites up k.readable.sites v)
    (λ x m. still x.key.at.site (k.needs.spans x m)) (λ p m _. still p.key.at.site) (λ p m _. still p.key.at.site) k

turned_key : (a b : SiteKey) → site_key_order a b ≡ Equal → is_equal (site_key_order b a) ≡ true
turned_key a b e = ap is_equal (site_keys.flip b a ∙ ap ordering_reverse e)

pub site_drop_kept : (r : Site) (s : Solution) → site_needed s r.key ≡ false → Kept s → Kept (with_sites s (without site_order r s.sites))
site_drop_kept r s free k =
    let up = k.ordered.sites in
    let (spans, both) = or_parts (any_of (span_on r.key) s.spans) (any_of (station_on r.key) s.estimates || any_of (station_on r.key) s.aprioris) free in
    let (estimates, aprioris) = or_parts (any_of (station_on r.key) s.estimates) (any_of (station_on r.key) s.aprioris) both in
    let still = λ (key : SiteKey). holds-without site_order site_order_lem (site_with key) r s.sites up in
    sites-kept (without site_order r s.sites) s (rises-without site_order site_order_lem r s.sites up) (all_without site_order site_order_lem ValidSite r s.sites up k.readable.sites)
    (λ x m. still x.key.at.site
    (λ e. both_ways (any_of (span_on r.key) s.spans) spans (among_any (span_on r.key) s.spans x m (turned_key r.key x.key.at.site e)))
    (k.needs.spans x m))
    (λ p m t. still p.key.at.site (λ e. needed s.estimates estimates p m t e))
    (λ p m t. still p.key.at.site (λ e. needed s.aprioris aprioris p m t e))
    k
  where
    needed : (ps : List Parameter) → any_of (station_on r.key) ps ≡ false → (p : Parameter) → Among p ps → stationed p ≡ true → site_key_order r.key p.key.at.site ≡ Equal → ⊥
    needed ps none p m t e =
        both_ways (any_of (station_on r.key) ps) none
        (among_any (station_on r.key) ps p m (and_from (stationed p) (is_equal (site_key_order p.key.at.site r.key)) t (turned_key r.key p.key.at.site e)))

-- ---- spans

-- other spans, each of which has its site, and of which each that is needed is there
spans-kept : (ys : List Span) (s : Solution) → Rising span_order ys → ((x : Span) → Among x ys → ValidSpan x) → ((x : Span) → Among x ys → has_site s x.key.at.site ≡ true)
    → ((p : Parameter) → Among p s.estimates → stationed p ≡ true → has_span s p.key.at ≡ true → has_span (with_spans s ys) p.key.at ≡ true)
    → ((p : Parameter) → Among p s.aprioris → stationed p ≡ true → has_span s p.key.at ≡ true → has_span (with_spans s ys) p.key.at ≡ true)
    → Kept s → Kept (with_spans s ys)
spans-kept ys s up valid f g h k = record {
  ordered = record {
    sites = k.ordered.sites;
    spans = up;
    estimates = k.ordered.estimates;
    aprioris = k.ordered.aprioris;
    whole = k.ordered.whole;
  };
  readable = record {
    head = k.readable.head;
    sites = k.readable.sites;
    spans = valid;
    estimates = k.readable.estimates;
    aprioris = k.readable.aprioris;
    cells = k.readable.cells;
  };
  needs = record {
    spans = f;
    estimates = λ p m. served_still s (with_spans s ys) p (λ _ e. e) (g p m) (k.needs.estimates p m);
    aprioris = λ p m. served_still s (with_spans s ys) p (λ _ e. e) (h p m) (k.needs.aprioris p m);
  };
}

-- a test of a span's solution tells keys only
span_at_alike : (k : SolutionKey) (r y : Span) → span_order y r ≡ Equal → span_at k y ≡ span_at k r
span_at_alike k r y e = ap (λ key. is_equal (solution_key_order key.at k)) (span_keys.same y.key r.key e)

pub span_put_kept : (r : Span) → ValidSpan r → (s : Solution) → has_site s r.key.at.site ≡ true → Kept s → Kept (with_spans s (put span_order r s.spans))
span_put_kept r v s there k =
    let up = k.ordered.spans in
    let still = λ (key : SolutionKey). any_put span_order span_order_lem (span_at key) r (span_at_alike key r) s.spans up in
    spans-kept (put span_order r s.spans) s (rises-put span_order span_order_lem r s.spans up) (all_put span_order span_order_lem ValidSpan r s.spans up k.readable.spans v)
    (all_put span_order span_order_lem (λ (x : Span). has_site s x.key.at.site ≡ true) r s.spans up k.needs.spans there) (λ p m _. still p.key.at) (λ p m _. still p.key.at) k

-- a span of the solution is left, where another than r was, or where no parameter of a station needs one
module _ (r : Span) (s : Solution) (k : Kept s) where
  beside_stays : (key : SolutionKey) → key ≡ r.key.at → any_of (span_beside r) s.spans ≡ true → any_of (span_at key) (without span_order r s.spans) ≡ true
  beside_stays key e h =
      let (y, m, b) = any_among (span_beside r) s.spans h in
      let (at, other) = and_parts (span_at r.key.at y) (not (is_equal (span_order y r))) b in
      any_without span_order span_order_lem (span_at key) r s.spans y k.ordered.spans m (ap (λ t. span_at t y) e ∙ at)
      (λ q. both_ways (is_equal (span_order y r)) (not-true (is_equal (span_order y r)) other) (ap is_equal q))

  span_left : (ps : List Parameter) → (any_of (span_beside r) s.spans ≡ false → any_of (station_at r.key.at) ps ≡ false) → (p : Parameter) → Among p ps → stationed p ≡ true
      → has_span s p.key.at ≡ true → any_of (span_at p.key.at) (without span_order r s.spans) ≡ true
  span_left ps none p m t h =
      let (y, n, at) = any_among (span_at p.key.at) s.spans h in
      ⊎_elim
      (λ (q : span_order y r ≡ Equal).
      let same : y.key.at ≡ p.key.at = solution_keys.same y.key.at p.key.at (is_equal_lem (solution_key_order y.key.at p.key.at) at) in
      let e : p.key.at ≡ r.key.at = sym same ∙ ap (λ key. key.at) (span_keys.same y.key r.key q) in
      let own : is_equal (solution_key_order p.key.at r.key.at) ≡ true = sym (ap₂ (λ u v. is_equal (solution_key_order u v)) same e) ∙ at in
      ⊎_elim (beside_stays p.key.at e)
      (λ (b : any_of (span_beside r) s.spans ≡ false). absurd (both_ways (any_of (station_at r.key.at) ps) (none b) (among_any (station_at r.key.at) ps p m (and_from (stationed p) (is_equal (solution_key_order p.key.at r.key.at)) t own))))
      (cases_Bool (any_of (span_beside r) s.spans)))
      (λ q. any_without span_order span_order_lem (span_at p.key.at) r s.spans y k.ordered.spans n at q)
      (equal_or_not (span_order y r))

  -- a span that is not needed is the only one of no needed solution
  not_needed : span_needed s r ≡ false → any_of (span_beside r) s.spans ≡ false
      → (any_of (station_at r.key.at) s.estimates ≡ false) × (any_of (station_at r.key.at) s.aprioris ≡ false)
  not_needed free none =
      let beside = any_of (span_beside r) s.spans in
      let estimates = any_of (station_at r.key.at) s.estimates in
      let aprioris = any_of (station_at r.key.at) s.aprioris in
      ⊎_elim (λ e. absurd (both_ways beside none (not-false beside e))) (or_parts estimates aprioris) (and_cases (not beside) (estimates || aprioris) free)

  left-kept : span_needed s r ≡ false → Kept (with_spans s (without span_order r s.spans))
  left-kept free =
      let up = k.ordered.spans in
      spans-kept (without span_order r s.spans) s (rises-without span_order span_order_lem r s.spans up) (all_without span_order span_order_lem ValidSpan r s.spans up k.readable.spans)
      (all_without span_order span_order_lem (λ (x : Span). has_site s x.key.at.site ≡ true) r s.spans up k.needs.spans)
      (span_left s.estimates (λ b. (not_needed free b).0)) (span_left s.aprioris (λ b. (not_needed free b).1)) k

pub span_drop_kept : (r : Span) (s : Solution) → span_needed s r ≡ false → Kept s → Kept (with_spans s (without span_order r s.spans))
span_drop_kept r s free k = left-kept r s k free

-- ---- a prioris

-- other a prioris, each of which is served
aprioris-kept : (ys : List Parameter) (s : Solution) → Rising parameter_order ys → ((x : Parameter) → Among x ys → ValidParameter x)
    → ((x : Parameter) → Among x ys → served s x ≡ true) → Kept s → Kept (with_aprioris s ys)
aprioris-kept ys s up valid f k = record {
  ordered = record {
    sites = k.ordered.sites;
    spans = k.ordered.spans;
    estimates = k.ordered.estimates;
    aprioris = up;
    whole = k.ordered.whole;
  };
  readable = record {
    head = k.readable.head;
    sites = k.readable.sites;
    spans = k.readable.spans;
    estimates = k.readable.estimates;
    aprioris = valid;
    cells = k.readable.cells;
  };
  needs = record { spans = k.needs.spans; estimates = k.needs.estimates; aprioris = f };
}

pub apriori_put_kept : (r : Parameter) → ValidParameter r → (s : Solution) → served s r ≡ true → Kept s → Kept (with_aprioris s (put parameter_order r s.aprioris))
apriori_put_kept r v s there k =
    let up = k.ordered.aprioris in
    aprioris-kept (put parameter_order r s.aprioris) s (rises-put parameter_order parameter_order_lem r s.aprioris up)
    (all_put parameter_order parameter_order_lem ValidParameter r s.aprioris up k.readable.aprioris v)
    (all_put parameter_order parameter_order_lem (λ x. served s x ≡ true) r s.aprioris up k.needs.aprioris there) k

pub apriori_drop_kept : (r : Parameter) (s : Solution) → Kept s → Kept (with_aprioris s (without parameter_order r s.aprioris))
apriori_drop_kept r s k =
    let up = k.ordered.aprioris in
    aprioris-kept (without parameter_order r s.aprioris) s (rises-without parameter_order parameter_order_lem r s.aprioris up)
    (all_without parameter_order parameter_order_lem ValidParameter r s.aprioris up k.readable.aprioris)
    (all_without parameter_order parameter_order_lem (λ x. served s x ≡ true) r s.aprioris up k.needs.aprioris) k
