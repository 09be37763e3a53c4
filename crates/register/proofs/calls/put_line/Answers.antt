use Rattle.record_laws.proofs.Validity.{given, parameters_are_valid, sites_are_valid, spans_are_valid}
use Rattle.record_laws.specs.Valid.{ValidParameter, ValidSite, ValidSpan}
use Rattle.register.proofs.calls.put_line.Goals as goal
use Rattle.std.proofs.Common.{sym, ◌∙◌}

pub put_site-requires : goal.put_site-requires
put_site-requires c = given ValidSite _ _ (sym c.read_site.ensures ∙ c.in_ok-read_site-in-Site.was) (sites_are_valid c.args.line.now c.requires)

pub put_span-requires : goal.put_span-requires
put_span-requires c = given ValidSpan _ _ (sym c.read_span.ensures ∙ c.in_ok-read_span-in-Span.was) (spans_are_valid c.args.line.now c.requires)

pub put_estimate-requires : goal.put_estimate-requires
put_estimate-requires c = given ValidParameter _ _ (sym c.read_parameter.ensures ∙ c.in_ok-read_parameter-in-Estimate.was) (parameters_are_valid c.args.line.now c.requires)

pub put_apriori-requires : goal.put_apriori-requires
put_apriori-requires c = given ValidParameter _ _ (sym c.read_parameter-in-Apriori.ensures ∙ c.in_ok-read_parameter-in-Apriori.was) (parameters_are_valid c.args.line.now c.requires)
