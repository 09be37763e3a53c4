-- A site put and dropped, on the tables as in the rules. Assumes nothing.
use Rattle.std.specs.Result.{result_unwrap_or}
use Rattle.model.proofs.Keeping.{site_drop_kept, site_put_kept}
use Rattle.model.proofs.Laying.{shown_is, site-known}
use Rattle.model.proofs.Steps.{demand_no, demand_yes, does_refused, stands_as}
use Rattle.model.proofs.Tables.{drop-count, drop-fits, drop_if, drop-laid, drop-reply, holds-alike, plain_then, put_count, put-fits, put_if, put-laid, put-reply, put_on}
use Rattle.model.specs.Edits.{drop_site, put_site, room, with_sites}
use Rattle.model.specs.Handed.{demand}
use Rattle.model.specs.Needs.{site_needed}
use Rattle.model.specs.Solutions.{Solution}
use Rattle.model.specs.States.{Does, Kept, Stands, State, state_of}
use Rattle.model.specs.Steps.{shown, site_drop_answer, site_dropped, site_known, site_put, site_put_answer, site_rows}
use Rattle.headings.specs.Lines.{and_then}
use Rattle.records.specs.KeyOrders.{site_order_lem}
use Rattle.records.specs.Sites.{blank_site, site_order, site_with}
use Rattle.record_laws.specs.Valid.{ValidSite}
use Rattle.records.specs.declared.sites.Site.{Site}
use Rattle.refusals.specs.declared.Fault.TheVariants.{RecordAbsent, StillNeeded}
use Rattle.std.proofs.lemmas.Bool.{cond_both, not_from_true}
use Rattle.std.proofs.Common.{◌≡◌, ◌≤◌, true, false, not, List, length, is_ok, Ok, Err, sym, refl, ap, ◌∙◌, ap₂}
use Rattle.tables.specs.Laws.{put_rule}
use Rattle.tables.specs.Lists.{holds, put, without}
use Rattle.tables.specs.Rows.{plain}

-- other sites that fit and are kept: register and tables that lay them out stand for them
sites_stand : (x : State) (s : Solution) (ys : List Site) → Stands x s → length ys ≤ x.places.sites → Kept (with_sites s ys) → Stands (state_of x.places (with_sites s ys)) (with_sites s ys)
sites_stand x s ys st le k = record {
  limits = st.limits;
  laid_out = refl;
  fits = record { sites = le; spans = st.fits.spans; estimates = st.fits.estimates; aprioris = st.fits.aprioris };
  kept = k;
}

pub site_put_does : (r : Site) → ValidSite r → (x : State) → Does (λ P s. put_site P s r) x (plain (site_put_answer r x)) (site_put r x)
site_put_does r v x = record {
  places = refl;
  answers = λ s st.
      ap (λ y. plain (site_put_answer r y)) st.laid_out
      ∙ put-reply site_order site_order_lem blank_site r x.places.sites s.sites st.fits.sites st.kept.ordered.sites
      ∙ sym (plain_then (room site_order r x.places.sites s.sites) (with_sites s (put site_order r s.sites)));
  leaves = λ s st.
      let n = x.places.sites in
      let ys = put_on site_order r n s.sites in
      let rows = put-laid site_order site_order_lem blank_site r n s.sites st.fits.sites st.kept.ordered.sites in
      let count = put_count site_order site_order_lem blank_site r n s.sites st.fits.sites st.kept.ordered.sites in
      stands_as (site_put r x) (state_of x.places (with_sites s ys)) (result_unwrap_or (put_site x.places s r) s) (with_sites s ys)
      (ap (site_put r) st.laid_out ∙ ap₂ (site_rows (state_of x.places s)) rows count)
      (put_if site_order r n (with_sites s) s.sites)
      (sites_stand x s ys st (put-fits site_order r n s.sites st.fits.sites)
      (cond_both (is_ok (put_rule site_order r n s.sites)) (put site_order r s.sites) s.sites (λ zs. Kept (with_sites s zs)) (λ _. site_put_kept r v s st.kept) (λ _. st.kept)));
}

-- ---- drops

-- the search finds the site where the list has it
site-held : (r : Site) (x : State) (s : Solution) → Stands x s → site_known x r.key ≡ holds site_order r s.sites
site-held r x s st = site-known x s r.key st ∙ holds-alike site_order (site_with r.key) r (λ y. refl) s.sites

needed_in : (r : Site) (x : State) (s : Solution) → Stands x s → site_needed (shown x) r.key ≡ site_needed s r.key
needed_in r x s st = ap (λ t. site_needed t r.key) (shown_is x s st)

pub site_drop_absent : (r : Site) (x : State) → site_known x r.key ≡ false → Does (λ P s. drop_site s r) x (Err RecordAbsent) x
site_drop_absent r x e =
    does_refused (λ P s. drop_site s r) x RecordAbsent (λ s st. demand_no RecordAbsent (holds site_order r s.sites) _ (sym (site-held r x s st) ∙ e))

pub site_drop_needed : (r : Site) (x : State) → site_known x r.key ≡ true → site_needed (shown x) r.key ≡ true → Does (λ P s. drop_site s r) x (Err StillNeeded) x
site_drop_needed r x e n =
    does_refused (λ P s. drop_site s r) x StillNeeded (λ s st.
    demand_yes RecordAbsent (holds site_order r s.sites) _ (sym (site-held r x s st) ∙ e)
    ∙ demand_no StillNeeded (not (site_needed s r.key)) _ (not_from_true (site_needed s r.key) (sym (needed_in r x s st) ∙ n)))

-- a site that nothing needs is refused only where it is absent
pub free-site : (r : Site) (s : Solution) → site_needed s r.key ≡ false
    → drop_site s r ≡ and_then (demand RecordAbsent (holds site_order r s.sites)) (λ _. Ok (with_sites s (without site_order r s.sites)))
free-site r s e =
    ap (λ b. and_then (demand RecordAbsent (holds site_order r s.sites)) (λ _. and_then (demand StillNeeded (not b)) (λ _. Ok (with_sites s (without site_order r s.sites))))) e

pub site_drop_does : (r : Site) (x : State) → site_needed (shown x) r.key ≡ false → site_known x r.key ≡ true
    → Does (λ P s. drop_site s r) x (plain (site_drop_answer r x)) (site_dropped r x)
site_drop_does r x free there = record {
  places = refl;
  answers = λ s st.
      ap (λ y. plain (site_drop_answer r y)) st.laid_out
      ∙ drop-reply site_order site_order_lem blank_site r x.places.sites s.sites st.fits.sites st.kept.ordered.sites
      ∙ sym (ap plain (free-site r s (sym (needed_in r x s st) ∙ free)) ∙ plain_then (demand RecordAbsent (holds site_order r s.sites)) (with_sites s (without site_order r s.sites)));
  leaves = λ s st.
      let n = x.places.sites in
      let ys = without site_order r s.sites in
      let none : site_needed s r.key ≡ false = sym (needed_in r x s st) ∙ free in
      let rows = drop-laid site_order site_order_lem blank_site r n s.sites st.fits.sites st.kept.ordered.sites in
      let count = drop-count site_order site_order_lem blank_site r n s.sites st.fits.sites st.kept.ordered.sites in
      stands_as (site_dropped r x) (state_of x.places (with_sites s ys)) (result_unwrap_or (drop_site s r) s) (with_sites s ys)
      (ap (site_dropped r) st.laid_out ∙ ap₂ (site_rows (state_of x.places s)) rows count)
      (ap (λ t. result_unwrap_or t s) (free-site r s none) ∙ drop_if site_order r (with_sites s) s.sites)
      (sites_stand x s ys st (drop-fits site_order r n s.sites st.fits.sites) (site_drop_kept r s none st.kept));
}
