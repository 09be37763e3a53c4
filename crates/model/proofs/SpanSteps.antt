-- A span put and dropped, on the tables as in the rules. Assumes nothing.
use Rattle.std.specs.Result.{result_unwrap_or}
use Rattle.std.proofs.Common.{◌≡◌, ◌≤◌, true, false, not, List, length, is_ok, Ok, Err, sym, refl, ap, ◌∙◌, ap₂}
use Rattle.model.proofs.Keeping.{span_drop_kept, span_put_kept}
use Rattle.model.proofs.Laying.{known-laid, shown_is, site-known}
use Rattle.model.proofs.Steps.{demand_no, demand_yes, does_refused, stands_as}
use Rattle.model.proofs.Tables.{drop-count, drop-fits, drop_if, drop-laid, drop-reply, plain_then, put_count, put-fits, put_if, put-laid, put-reply, put_on}
use Rattle.model.specs.Edits.{drop_span, put_span, room, with_spans}
use Rattle.model.specs.Handed.{demand}
use Rattle.model.specs.Needs.{has_site, span_needed}
use Rattle.model.specs.Solutions.{Solution}
use Rattle.model.specs.States.{Does, Kept, Stands, State, state_of}
use Rattle.model.specs.Steps.{shown, site_known, span_drop_answer, span_dropped, span_put, span_put_answer, span_rows}
use Rattle.headings.specs.Lines.{and_then}
use Rattle.records.specs.KeyOrders.{span_order_lem}
use Rattle.records.specs.Spans.{blank_span, span_order}
use Rattle.record_laws.specs.Valid.{ValidSpan}
use Rattle.records.specs.declared.spans.Span.{Span}
use Rattle.refusals.specs.declared.Fault.TheVariants.{NeedMissing, RecordAbsent, StillNeeded}
use Rattle.std.proofs.lemmas.Bool.{cond_both, not_from_true}
use Rattle.tables.specs.Laws.{put_rule}
use Rattle.tables.specs.Lists.{holds, put, without}
use Rattle.tables.specs.Rows.{known, plain}

-- other spans that fit and are kept: register and tables that lay them out stand for them
spans_stand : (x : State) (s : Solution) (ys : List Span) → Stands x s → length ys ≤ x.places.spans → Kept (with_spans s ys) → Stands (state_of x.places (with_spans s ys)) (with_spans s ys)
spans_stand x s ys st le k = record {
  limits = st.limits;
  laid_out = refl;
  fits = record { sites = st.fits.sites; spans = le; estimates = st.fits.estimates; aprioris = st.fits.aprioris };
  kept = k;
}

-- ---- puts

site_there : (r : Span) (x : State) (s : Solution) → Stands x s → site_known x r.key.at.site ≡ has_site s r.key.at.site
site_there r x s st = site-known x s r.key.at.site st

pub span_put_lacking : (r : Span) (x : State) → site_known x r.key.at.site ≡ false → Does (λ P s. put_span P s r) x (Err NeedMissing) x
span_put_lacking r x e =
    does_refused (λ P s. put_span P s r) x NeedMissing (λ s st. demand_no NeedMissing (has_site s r.key.at.site) _ (sym (site_there r x s st) ∙ e))

pub span_put_does : (r : Span) → ValidSpan r → (x : State) → site_known x r.key.at.site ≡ true → Does (λ P s. put_span P s r) x (plain (span_put_answer r x)) (span_put r x)
span_put_does r v x e = record {
  places = refl;
  answers = λ s st.
      ap (λ y. plain (span_put_answer r y)) st.laid_out
      ∙ put-reply span_order span_order_lem blank_span r x.places.spans s.spans st.fits.spans st.kept.ordered.spans
      ∙ sym (ap plain (demand_yes NeedMissing (has_site s r.key.at.site) _ (sym (site_there r x s st) ∙ e))
      ∙ plain_then (room span_order r x.places.spans s.spans) (with_spans s (put span_order r s.spans)));
  leaves = λ s st.
      let n = x.places.spans in
      let ys = put_on span_order r n s.spans in
      let there : has_site s r.key.at.site ≡ true = sym (site_there r x s st) ∙ e in
      let rows = put-laid span_order span_order_lem blank_span r n s.spans st.fits.spans st.kept.ordered.spans in
      let count = put_count span_order span_order_lem blank_span r n s.spans st.fits.spans st.kept.ordered.spans in
      stands_as (span_put r x) (state_of x.places (with_spans s ys)) (result_unwrap_or (put_span x.places s r) s) (with_spans s ys)
      (ap (span_put r) st.laid_out ∙ ap₂ (span_rows (state_of x.places s)) rows count)
      (ap (λ t. result_unwrap_or t s) (demand_yes NeedMissing (has_site s r.key.at.site) _ there) ∙ put_if span_order r n (with_spans s) s.spans)
      (spans_stand x s ys st (put-fits span_order r n s.spans st.fits.spans)
      (cond_both (is_ok (put_rule span_order r n s.spans)) (put span_order r s.spans) s.spans (λ zs. Kept (with_spans s zs)) (λ _. span_put_kept r v s there st.kept) (λ _. st.kept)));
}

-- ---- drops

-- the search finds the span where the list has it
span_held : (r : Span) (x : State) (s : Solution) → Stands x s → known span_order r x.used.spans x.spans ≡ holds span_order r s.spans
span_held r x s st =
    ap (λ y. known span_order r y.used.spans y.spans) st.laid_out
    ∙ known-laid span_order span_order_lem blank_span r x.places.spans s.spans st.fits.spans st.kept.ordered.spans

needed_in : (r : Span) (x : State) (s : Solution) → Stands x s → span_needed (shown x) r ≡ span_needed s r
needed_in r x s st = ap (λ t. span_needed t r) (shown_is x s st)

pub span_drop_absent : (r : Span) (x : State) → known span_order r x.used.spans x.spans ≡ false → Does (λ P s. drop_span s r) x (Err RecordAbsent) x
span_drop_absent r x e =
    does_refused (λ P s. drop_span s r) x RecordAbsent (λ s st. demand_no RecordAbsent (holds span_order r s.spans) _ (sym (span_held r x s st) ∙ e))

pub span_drop_needed : (r : Span) (x : State) → known span_order r x.used.spans x.spans ≡ true → span_needed (shown x) r ≡ true → Does (λ P s. drop_span s r) x (Err StillNeeded) x
span_drop_needed r x e n =
    does_refused (λ P s. drop_span s r) x StillNeeded (λ s st.
    demand_yes RecordAbsent (holds span_order r s.spans) _ (sym (span_held r x s st) ∙ e)
    ∙ demand_no StillNeeded (not (span_needed s r)) _ (not_from_true (span_needed s r) (sym (needed_in r x s st) ∙ n)))

-- a span that nothing needs is refused only where it is absent
pub free_span : (r : Span) (s : Solution) → span_needed s r ≡ false
    → drop_span s r ≡ and_then (demand RecordAbsent (holds span_order r s.spans)) (λ _. Ok (with_spans s (without span_order r s.spans)))
free_span r s e =
    ap (λ b. and_then (demand RecordAbsent (holds span_order r s.spans)) (λ _. and_then (demand StillNeeded (not b)) (λ _. Ok (with_spans s (without span_order r s.spans))))) e

pub span_drop_does : (r : Span) (x : State) → span_needed (shown x) r ≡ false → known span_order r x.used.spans x.spans ≡ true
    → Does (λ P s. drop_span s r) x (plain (span_drop_answer r x)) (span_dropped r x)
span_drop_does r x free there = record {
  places = refl;
  answers = λ s st.
      ap (λ y. plain (span_drop_answer r y)) st.laid_out
      ∙ drop-reply span_order span_order_lem blank_span r x.places.spans s.spans st.fits.spans st.kept.ordered.spans
      ∙ sym (ap plain (free_span r s (sym (needed_in r x s st) ∙ free)) ∙ plain_then (demand RecordAbsent (holds span_order r s.spans)) (with_spans s (without span_order r s.spans)));
  leaves = λ s st.
      let n = x.places.spans in
      let ys = without span_order r s.spans in
      let none : span_needed s r ≡ false = sym (needed_in r x s st) ∙ free in
      let rows = drop-laid span_order span_order_lem blank_span r n s.spans st.fits.spans st.kept.ordered.spans in
      let count = drop-count span_order span_order_lem blank_span r n s.spans st.fits.spans st.kept.ordered.spans in
      stands_as (span_dropped r x) (state_of x.places (with_spans s ys)) (result_unwrap_or (drop_span s r) s) (with_spans s ys)
      (ap (span_dropped r) st.laid_out ∙ ap₂ (span_rows (state_of x.places s)) rows count)
      (ap (λ t. result_unwrap_or t s) (free_span r s none) ∙ drop_if span_order r (with_spans s) s.spans)
      (spans_stand x s ys st (drop-fits span_order r n s.spans st.fits.spans) (span_drop_kept r s none st.kept));
}
