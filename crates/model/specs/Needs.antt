-- What records need of each other.
use Rattle.codes.specs.Order.{is_equal}
use Rattle.codes.specs.ParameterTypes.{type_named}
use Rattle.codes.specs.declared.types.ParameterType.{ParameterType}
use Rattle.model.specs.Solutions.{Solution}
use Rattle.records.specs.Keys.{site_key_order, solution_key_order}
use Rattle.records.specs.Sites.{site_order, site_with}
use Rattle.records.specs.Spans.{span_order}
use Rattle.records.specs.declared.keys.SiteKey.{SiteKey}
use Rattle.records.specs.declared.keys.SolutionKey.{SolutionKey}
use Rattle.records.specs.declared.parameters.Parameter.{Parameter}
use Rattle.records.specs.declared.spans.Span.{Span}
use Rattle.std.specs.Prelude.{Bool, false, not, ◌&&◌, ◌||◌, List, [], ◌∷◌, Some, None, Option}
use Rattle.tables.specs.Lists.{holds}

abbrev pub stationed_by : Option ParameterType → Bool
stationed_by None = false
stationed_by (Some t) = t.stationed

-- a parameter of a station needs its site (site, point) and a span (site, point, solution)
abbrev pub stationed : Parameter → Bool
stationed p = stationed_by (type_named p.key.name)

-- whether the test holds of one of the list
abbrev pub any_of : {R : Type 0} → (R → Bool) → List R → Bool
any_of f [] = false
any_of f (x ∷ xs) = f x || any_of f xs

-- ---- a span of a solution, at a site; a parameter of a station there

abbrev pub span_at : SolutionKey → Span → Bool
span_at k x = is_equal (solution_key_order x.key.at k)

abbrev pub span_on : SiteKey → Span → Bool
span_on k x = is_equal (site_key_order x.key.at.site k)

-- a span of the same solution as r, of another technique
abbrev pub span_beside : Span → Span → Bool
span_beside r x = span_at r.key.at x && not (is_equal (span_order x r))

abbrev pub station_at : SolutionKey → Parameter → Bool
station_at k p = stationed p && is_equal (solution_key_order p.key.at k)

abbrev pub station_on : SiteKey → Parameter → Bool
station_on k p = stationed p && is_equal (site_key_order p.key.at.site k)

-- ---- in a solution

abbrev pub has_site : Solution → SiteKey → Bool
has_site s k = holds site_order (site_with k) s.sites

abbrev pub has_span : Solution → SolutionKey → Bool
has_span s k = any_of (span_at k) s.spans

-- what the parameter needs is there
abbrev pub served : Solution → Parameter → Bool
served s p = not (stationed p) || (has_site s p.key.at.site && has_span s p.key.at)

-- a span, or a parameter of a station, needs the site
abbrev pub site_needed : Solution → SiteKey → Bool
site_needed s k = any_of (span_on k) s.spans || (any_of (station_on k) s.estimates || any_of (station_on k) s.aprioris)

-- it is the last span of its site, point and solution, and a parameter of a station needs one
abbrev pub span_needed : Solution → Span → Bool
span_needed s r = not (any_of (span_beside r) s.spans) && (any_of (station_at r.key.at) s.estimates || any_of (station_at r.key.at) s.aprioris)
