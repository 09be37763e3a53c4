-- An a priori put and dropped, on the tables as in the rules. Assumes nothing.
use Rattle.std.specs.Result.{result_unwrap_or}
use Rattle.std.proofs.Common.{◌≡◌, ◌≤◌, true, false, List, length, is_ok, Err, sym, refl, ap, ◌∙◌, ap₂}
use Rattle.model.proofs.Keeping.{apriori_drop_kept, apriori_put_kept}
use Rattle.model.proofs.Laying.{served_in_lem}
use Rattle.model.proofs.Steps.{demand_no, demand_yes, does_refused, stands_as}
use Rattle.model.proofs.Tables.{drop-count, drop-fits, drop_if, drop-laid, drop-reply, plain_then, put_count, put-fits, put_if, put-laid, put-reply, put_on}
use Rattle.model.specs.Edits.{drop_apriori, put_apriori, room, with_aprioris}
use Rattle.model.specs.Handed.{demand}
use Rattle.model.specs.Needs.{served}
use Rattle.model.specs.Solutions.{Solution}
use Rattle.model.specs.States.{Does, Kept, Stands, State, state_of}
use Rattle.model.specs.Steps.{apriori_drop_answer, apriori_dropped, apriori_put, apriori_put_answer, apriori_rows, served_in}
use Rattle.records.specs.KeyOrders.{parameter_order_lem}
use Rattle.records.specs.Parameters.{blank_parameter, parameter_order}
use Rattle.record_laws.specs.Valid.{ValidParameter}
use Rattle.records.specs.declared.parameters.Parameter.{Parameter}
use Rattle.refusals.specs.declared.Fault.TheVariants.{NeedMissing, RecordAbsent}
use Rattle.std.proofs.lemmas.Bool.{cond_both}
use Rattle.tables.specs.Laws.{put_rule}
use Rattle.tables.specs.Lists.{holds, put, without}
use Rattle.tables.specs.Rows.{plain}

-- other a prioris that fit and are kept: register and tables that lay them out stand for them
aprioris_stand : (x : State) (s : Solution) (ys : List Parameter) → Stands x s → length ys ≤ x.places.aprioris → Kept (with_aprioris s ys)
    → Stands (state_of x.places (with_aprioris s ys)) (with_aprioris s ys)
aprioris_stand x s ys st le k = record {
  limits = st.limits;
  laid_out = refl;
  fits = record { sites = st.fits.sites; spans = st.fits.spans; estimates = st.fits.estimates; aprioris = le };
  kept = k;
}

pub apriori_put_lacking : (r : Parameter) (x : State) → served_in x r ≡ false → Does (λ P s. put_apriori P s r) x (Err NeedMissing) x
apriori_put_lacking r x e =
    does_refused (λ P s. put_apriori P s r) x NeedMissing (λ s st. demand_no NeedMissing (served s r) _ (sym (served_in_lem x s r st) ∙ e))

pub apriori_put_does : (r : Parameter) → ValidParameter r → (x : State) → served_in x r ≡ true → Does (λ P s. put_apriori P s r) x (plain (apriori_put_answer r x)) (apriori_put r x)
apriori_put_does r v x e = record {
  places = refl;
  answers = λ s st.
      ap (λ y. plain (apriori_put_answer r y)) st.laid_out
      ∙ put-reply parameter_order parameter_order_lem blank_parameter r x.places.aprioris s.aprioris st.fits.aprioris st.kept.ordered.aprioris
      ∙ sym (ap plain (demand_yes NeedMissing (served s r) _ (sym (served_in_lem x s r st) ∙ e))
      ∙ plain_then (room parameter_order r x.places.aprioris s.aprioris) (with_aprioris s (put parameter_order r s.aprioris)));
  leaves = λ s st.
      let n = x.places.aprioris in
      let ys = put_on parameter_order r n s.aprioris in
      let there : served s r ≡ true = sym (served_in_lem x s r st) ∙ e in
      let rows = put-laid parameter_order parameter_order_lem blank_parameter r n s.aprioris st.fits.aprioris st.kept.ordered.aprioris in
      let count = put_count parameter_order parameter_order_lem blank_parameter r n s.aprioris st.fits.aprioris st.kept.ordered.aprioris in
      stands_as (apriori_put r x) (state_of x.places (with_aprioris s ys)) (result_unwrap_or (put_apriori x.places s r) s) (with_aprioris s ys)
      (ap (apriori_put r) st.laid_out ∙ ap₂ (apriori_rows (state_of x.places s)) rows count)
      (ap (λ t. result_unwrap_or t s) (demand_yes NeedMissing (served s r) _ there) ∙ put_if parameter_order r n (with_aprioris s) s.aprioris)
      (aprioris_stand x s ys st (put-fits parameter_order r n s.aprioris st.fits.aprioris)
      (cond_both (is_ok (put_rule parameter_order r n s.aprioris)) (put parameter_order r s.aprioris) s.aprioris (λ zs. Kept (with_aprioris s zs))
      (λ _. apriori_put_kept r v s there st.kept) (λ _. st.kept)));
}

pub apriori_drop_does : (r : Parameter) (x : State) → Does (λ P s. drop_apriori s r) x (plain (apriori_drop_answer r x)) (apriori_dropped r x)
apriori_drop_does r x = record {
  places = refl;
  answers = λ s st.
      ap (λ y. plain (apriori_drop_answer r y)) st.laid_out
      ∙ drop-reply parameter_order parameter_order_lem blank_parameter r x.places.aprioris s.aprioris st.fits.aprioris st.kept.ordered.aprioris
      ∙ sym (plain_then (demand RecordAbsent (holds parameter_order r s.aprioris)) (with_aprioris s (without parameter_order r s.aprioris)));
  leaves = λ s st.
      let n = x.places.aprioris in
      let ys = without parameter_order r s.aprioris in
      let rows = drop-laid parameter_order parameter_order_lem blank_parameter r n s.aprioris st.fits.aprioris st.kept.ordered.aprioris in
      let count = drop-count parameter_order parameter_order_lem blank_parameter r n s.aprioris st.fits.aprioris st.kept.ordered.aprioris in
      stands_as (apriori_dropped r x) (state_of x.places (with_aprioris s ys)) (result_unwrap_or (drop_apriori s r) s) (with_aprioris s ys)
      (ap (apriori_dropped r) st.laid_out ∙ ap₂ (apriori_rows (state_of x.places s)) rows count)
      (drop_if parameter_order r (with_aprioris s) s.aprioris)
      (aprioris_stand x s ys st (drop-fits parameter_order r n s.aprioris st.fits.aprioris) (apriori_drop_kept r s st.kept));
}
