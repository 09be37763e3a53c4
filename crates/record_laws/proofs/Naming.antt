-- A line whose record is read names that record. Assumes nothing.
use Rattle.std.proofs.Common.{◌≡◌, ℕ, List, Ok, Result, refl, ap}
use Rattle.refusals.specs.declared.Fault.{Fault}
use Rattle.codes.specs.Codes.{read_technique}
use Rattle.codes.specs.ParameterTypes.{type_named, check_type}
use Rattle.codes.specs.Text.{read_text, read_description, check_blank}
use Rattle.fields.specs.Angle.{columns}
use Rattle.fields.specs.Epoch.{read_epoch}
use Rattle.records.specs.Keys.{read_site_key, pick_site_key, read_solution_key, pick_solution_key}
use Rattle.records.specs.Parameters.{read_parameter_key, pick_parameter_key, read_measure, read_parameter, found_type, type_of, parameter_named, parameter_with}
use Rattle.records.specs.Sites.{read_position, read_site, site_named, site_with}
use Rattle.records.specs.Spans.{read_span_key, pick_span_key, read_epochs, read_span, span_named, span_with}
use Rattle.record_laws.specs.Valid.{Gives, SitesAreNamed, SpansAreNamed, ParametersAreNamed}
use Rattle.records.specs.declared.keys.SiteKey.{SiteKey}
use Rattle.records.specs.declared.keys.SolutionKey.{SolutionKey}
use Rattle.records.specs.declared.parameters.ParameterKey.{ParameterKey}
use Rattle.records.specs.declared.parameters.Parameter.{Parameter}
use Rattle.records.specs.declared.sites.Site.{Site}
use Rattle.records.specs.declared.spans.SpanKey.{SpanKey}
use Rattle.records.specs.declared.spans.Span.{Span}
use Rattle.record_laws.proofs.Parts.{then_step}
use Rattle.record_laws.proofs.Validity.{then_holds, given, type_known}

-- the other reading of the same columns gives the same
abbrev Also : {A : Type 0} → Result A Fault → A → Type 0
Also r k = r ≡ Ok k

site_key_picked : (bs : List ℕ) → Gives (Also (pick_site_key bs)) (read_site_key bs)
site_key_picked bs =
    let P : SiteKey → Type 0 = Also (pick_site_key bs) in
    then_holds P (read_text 4 (columns 0 4 bs)) _ (λ code e.
    then_holds P (check_blank (columns 4 5 bs)) _ (λ _ _.
    then_holds P (read_text 2 (columns 5 7 bs)) _ (λ point f.
    then_step (read_text 4 (columns 0 4 bs)) code _ e (then_step (read_text 2 (columns 5 7 bs)) point _ f refl))))

solution_key_picked : (bs : List ℕ) → Gives (Also (pick_solution_key bs)) (read_solution_key bs)
solution_key_picked bs =
    let P : SolutionKey → Type 0 = Also (pick_solution_key bs) in
    then_holds P (read_site_key (columns 0 7 bs)) _ (λ site e.
    then_holds P (check_blank (columns 7 8 bs)) _ (λ _ _.
    then_holds P (read_text 4 (columns 8 12 bs)) _ (λ solution f.
    then_step (pick_site_key (columns 0 7 bs)) site _ (given (Also (pick_site_key (columns 0 7 bs))) (read_site_key (columns 0 7 bs)) site e (site_key_picked (columns 0 7 bs)))
    (then_step (read_text 4 (columns 8 12 bs)) solution _ f refl))))

span_key_picked : (bs : List ℕ) → Gives (Also (pick_span_key bs)) (read_span_key bs)
span_key_picked bs =
    let P : SpanKey → Type 0 = Also (pick_span_key bs) in
    then_holds P (read_solution_key (columns 0 12 bs)) _ (λ at e.
    then_holds P (check_blank (columns 12 13 bs)) _ (λ _ _.
    then_holds P (read_technique (columns 13 14 bs)) _ (λ technique f.
    then_step (pick_solution_key (columns 0 12 bs)) at _ (given (Also (pick_solution_key (columns 0 12 bs))) (read_solution_key (columns 0 12 bs)) at e (solution_key_picked (columns 0 12 bs)))
    (then_step (read_technique (columns 13 14 bs)) technique _ f refl))))

parameter_key_picked : (bs : List ℕ) → Gives (Also (pick_parameter_key bs)) (read_parameter_key bs)
parameter_key_picked bs =
    let P : ParameterKey → Type 0 = Also (pick_parameter_key bs) in
    then_holds P (check_blank (columns 0 1 bs)) _ (λ _ _.
    then_holds P (read_text 6 (columns 1 7 bs)) _ (λ name e.
    then_holds P (check_blank (columns 7 8 bs)) _ (λ _ _.
    then_holds P (read_solution_key (columns 8 20 bs)) _ (λ at f.
    then_holds P (check_blank (columns 20 21 bs)) _ (λ _ _.
    then_holds P (read_epoch (columns 21 33 bs)) _ (λ epoch g.
    then_step (read_text 6 (columns 1 7 bs)) name _ e
    (then_step (pick_solution_key (columns 8 20 bs)) at _ (given (Also (pick_solution_key (columns 8 20 bs))) (read_solution_key (columns 8 20 bs)) at f (solution_key_picked (columns 8 20 bs)))
    (then_step (read_epoch (columns 21 33 bs)) epoch _ g refl))))))))

pub sites_are_named : SitesAreNamed
sites_are_named line s r =
    let P : Site → Type 0 = λ x. site_named line ≡ Ok (site_with x.key) in
    given P (read_site line) s r (
    then_holds P (read_site_key (columns 1 8 line)) _ (λ key e.
    then_holds P (check_blank (columns 8 9 line)) _ (λ _ _.
    then_holds P (read_text 9 (columns 9 18 line)) _ (λ _ _.
    then_holds P (check_blank (columns 18 19 line)) _ (λ _ _.
    then_holds P (read_technique (columns 19 20 line)) _ (λ _ _.
    then_holds P (check_blank (columns 20 21 line)) _ (λ _ _.
    then_holds P (read_description 22 (columns 21 43 line)) _ (λ _ _.
    then_holds P (check_blank (columns 43 44 line)) _ (λ _ _.
    then_holds P (read_position (columns 44 80 line)) _ (λ _ _.
    then_step (pick_site_key (columns 1 8 line)) key _ (given (Also (pick_site_key (columns 1 8 line))) (read_site_key (columns 1 8 line)) key e (site_key_picked (columns 1 8 line))) refl))))))))))

pub spans_are_named : SpansAreNamed
spans_are_named line s r =
    let P : Span → Type 0 = λ x. span_named line ≡ Ok (span_with x.key) in
    given P (read_span line) s r (
    then_holds P (read_span_key (columns 1 15 line)) _ (λ key e.
    then_holds P (read_epochs (columns 15 80 line)) _ (λ _ _.
    then_step (pick_span_key (columns 1 15 line)) key _ (given (Also (pick_span_key (columns 1 15 line))) (read_span_key (columns 1 15 line)) key e (span_key_picked (columns 1 15 line))) refl)))

pub parameters_are_named : ParametersAreNamed
parameters_are_named line p r =
    let P : Parameter → Type 0 = λ x. parameter_named line ≡ Ok (parameter_with x.key) in
    given P (read_parameter line) p r (
    then_holds P (read_parameter_key (columns 6 39 line)) _ (λ key e.
    then_holds P (check_blank (columns 39 40 line)) _ (λ _ _.
    then_holds P (read_text 4 (columns 40 44 line)) _ (λ unit _.
    then_holds P (check_blank (columns 44 45 line)) _ (λ _ _.
    then_holds P (read_measure (columns 45 80 line)) _ (λ _ _.
    then_holds P (check_type key.name unit) _ (λ t g.
    let (u, known) = type_known (type_named key.name) unit t g in
    then_step (pick_parameter_key (columns 6 39 line)) key _ (given (Also (pick_parameter_key (columns 6 39 line))) (read_parameter_key (columns 6 39 line)) key e (parameter_key_picked (columns 6 39 line)))
    (then_step (type_of key.name) u _ (ap found_type known) refl))))))))
