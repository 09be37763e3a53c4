use Rattle.std.proofs.Common.{◌∙◌, None, Some, rules, tests}
use Rattle.std.proofs.lemmas.Iterator.{YieldsList-from_slice}
use Rattle.std.proofs.lemmas.Iterator.Search.{find_from_yields_List}
use Rattle.frame.specs.Headings.{is_text}
use Rattle.frame.proofs.Words.{form_found}
use Rattle.frame.proofs.heading.matrix_form.Goals as goal

pub returns-in_err-side : goal.returns-in_err-side
returns-in_err-side c =
    let y = YieldsList-from_slice _ c.iter.ensures.rest in
    c.from_residual.ensures ∙ form_found c.args.text.now y _ None c.in_err-side.was
    (find_from_yields_List (λ t. is_text t.0.now c.args.text.now) _ _ c.find.result c.find.ensures.ran y (λ x b q k. search (rules, tests)))

pub returns : goal.returns
returns c =
    let y = YieldsList-from_slice _ c.iter.ensures.rest in
    form_found c.args.text.now y _ (Some c.in_ok-side.field-0) c.in_ok-side.was
    (find_from_yields_List (λ t. is_text t.0.now c.args.text.now) _ _ c.find.result c.find.ensures.ran y (λ x b q k. search (rules, tests)))
