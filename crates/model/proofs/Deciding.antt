-- A drop is refused as still needed exactly where what it would leave does not meet its needs. Assumes nothing.
use Rattle.codes.specs.Order.{is_equal}
use Rattle.model.proofs.Keeping.{site_drop_kept, span_drop_kept}
use Rattle.model.proofs.SiteSteps.{free-site}
use Rattle.model.proofs.SpanSteps.{free_span}
use Rattle.model.proofs.Steps.{demand_no, demand_yes}
use Rattle.model.proofs.Tables.{among_any, any_among, holds_among, is_equal_lem}
use Rattle.model.proofs.Undoing.{never_ok, not_equal, served_has}
use Rattle.model.specs.EditLaws.{Decides, NeedsDecideDrops}
use Rattle.model.specs.Edits.{drop_site, drop_span, with_sites, with_spans}
use Rattle.model.specs.Needs.{any_of, has_site, served, site_needed, span_at, span_beside, span_needed, span_on, station_at, station_on, stationed}
use Rattle.model.specs.Solutions.{Solution}
use Rattle.model.specs.States.{Kept, NeedsMet}
use Rattle.records.specs.KeyOrders.{site_keys, site_order_lem, solution_keys, span_order_lem}
use Rattle.records.specs.Keys.{site_key_order, solution_key_order}
use Rattle.records.specs.Sites.{site_order, site_with}
use Rattle.records.specs.Spans.{span_order}
use Rattle.records.specs.declared.keys.SiteKey.{SiteKey}
use Rattle.records.specs.declared.parameters.Parameter.{Parameter}
use Rattle.records.specs.declared.sites.Site.{Site}
use Rattle.records.specs.declared.spans.Span.{Span}
use Rattle.refusals.specs.declared.Fault.{Fault}
use Rattle.refusals.specs.declared.Fault.TheVariants.{RecordAbsent, StillNeeded}
use Rattle.std.proofs.lemmas.Bool.{and_from, and_parts, both_ways, not_from_false, not_from_true, not-true, or_cases}
use Rattle.std.proofs.Common.{◌≡◌, Bool, true, false, not, ◌||◌, Ok, Err, Result, sym, refl, ap, ◌∙◌, ⊎_elim}
use Rattle.tables.proofs.Edits.{drop_law, rises-without}
use Rattle.tables.specs.Lists.{holds, without}

-- a test that decides both the answer and the needs
decided_by : (b : Bool) (left : Solution) (a : Result Solution Fault) → (b ≡ false → a ≡ Ok left) → (b ≡ false → NeedsMet left) → (b ≡ true → a ≡ Err StillNeeded)
    → (b ≡ true → NeedsMet left → ⊥) → Decides left a
decided_by true left a f g h n = record {
  accepted = λ e. absurd (never_ok StillNeeded left (sym (h refl) ∙ e));
  met = λ m. absurd (n refl m);
  refused = λ e. n refl;
  unmet = λ e. h refl;
}
decided_by false left a f g h n = record {
  accepted = λ e. g refl;
  met = λ m. f refl;
  refused = λ e m. never_ok StillNeeded left (sym e ∙ f refl);
  unmet = λ e. absurd (e (g refl));
}

-- ---- sites

module _ (r : Site) (s : Solution) (k : Kept s) (there : holds site_order r s.sites ≡ true) where
  abbrev left : Solution
  left = with_sites s (without site_order r s.sites)

  -- the site is gone
  site_gone : (key : SiteKey) → is_equal (site_key_order key r.key) ≡ true → has_site left key ≡ true → ⊥
  site_gone key e h =
      let up = k.ordered.sites in
      let same : key ≡ r.key = site_keys.same key r.key (is_equal_lem (site_key_order key r.key) e) in
      let (y, m, q) = holds_among site_order site_order_lem (site_with key) (without site_order r s.sites) (rises-without site_order site_order_lem r s.sites up) h in
      ((drop_law site_order site_order_lem r s.sites up).only y m).1 (ap (site_key_order y.key) (sym same) ∙ q)

  station_lacks : (p : Parameter) → served left p ≡ true → station_on r.key p ≡ true → ⊥
  station_lacks p h e =
      let (st, on) = and_parts (stationed p) (is_equal (site_key_order p.key.at.site r.key)) e in
      site_gone p.key.at.site on (served_has left p h st).0

  site-unmet : site_needed s r.key ≡ true → NeedsMet left → ⊥
  site-unmet e met =
      let key = r.key in
      ⊎_elim (λ h. let (x, m, q) = any_among (span_on key) s.spans h in site_gone x.key.at.site q (met.spans x m))
      (λ both. ⊎_elim (λ h. let (p, m, q) = any_among (station_on key) s.estimates h in station_lacks p (met.estimates p m) q)
      (λ h. let (p, m, q) = any_among (station_on key) s.aprioris h in station_lacks p (met.aprioris p m) q)
      (or_cases (any_of (station_on key) s.estimates) (any_of (station_on key) s.aprioris) both))
      (or_cases (any_of (span_on key) s.spans) (any_of (station_on key) s.estimates || any_of (station_on key) s.aprioris) e)

  site_decides : Decides left (drop_site s r)
  site_decides =
      decided_by (site_needed s r.key) left (drop_site s r)
      (λ e. free-site r s e ∙ demand_yes RecordAbsent (holds site_order r s.sites) _ there)
      (λ e. (site_drop_kept r s e k).needs)
      (λ e. demand_yes RecordAbsent (holds site_order r s.sites) _ there ∙ demand_no StillNeeded (not (site_needed s r.key)) _ (not_from_true (site_needed s r.key) e))
      site-unmet

-- ---- spans

module _ (r : Span) (s : Solution) (k : Kept s) (there : holds span_order r s.spans ≡ true) where
  abbrev others : Solution
  others = with_spans s (without span_order r s.spans)

  -- a parameter of a station that is served still has another span than r
  served_beside : (p : Parameter) → served others p ≡ true → station_at r.key.at p ≡ true → any_of (span_beside r) s.spans ≡ true
  served_beside p h e =
      let (st, at) = and_parts (stationed p) (is_equal (solution_key_order p.key.at r.key.at)) e in
      let same : p.key.at ≡ r.key.at = solution_keys.same p.key.at r.key.at (is_equal_lem (solution_key_order p.key.at r.key.at) at) in
      let (y, m, on) = any_among (span_at p.key.at) (without span_order r s.spans) (served_has others p h st).1 in
      let (n, other) = (drop_law span_order span_order_lem r s.spans k.ordered.spans).only y m in
      among_any (span_beside r) s.spans y n
      (and_from (span_at r.key.at y) (not (is_equal (span_order y r))) (ap (λ t. span_at t y) (sym same) ∙ on) (not_from_false (is_equal (span_order y r)) (not_equal (span_order y r) other)))

  span_unmet : span_needed s r ≡ true → NeedsMet others → ⊥
  span_unmet e met =
      let beside = any_of (span_beside r) s.spans in
      let f = station_at r.key.at in
      let (none, some) = and_parts (not beside) (any_of f s.estimates || any_of f s.aprioris) e in
      both_ways beside (not-true beside none)
      (⊎_elim (λ h. let (p, m, q) = any_among f s.estimates h in served_beside p (met.estimates p m) q)
      (λ h. let (p, m, q) = any_among f s.aprioris h in served_beside p (met.aprioris p m) q)
      (or_cases (any_of f s.estimates) (any_of f s.aprioris) some))

  span_decides : Decides others (drop_span s r)
  span_decides =
      decided_by (span_needed s r) others (drop_span s r)
      (λ e. free_span r s e ∙ demand_yes RecordAbsent (holds span_order r s.spans) _ there)
      (λ e. (span_drop_kept r s e k).needs)
      (λ e. demand_yes RecordAbsent (holds span_order r s.spans) _ there ∙ demand_no StillNeeded (not (span_needed s r)) _ (not_from_true (span_needed s r) e))
      span_unmet

pub needs_decide_drops : NeedsDecideDrops
needs_decide_drops = record { sites = λ s r k there. site_decides r s k there; spans = λ s r k there. span_decides r s k there }
