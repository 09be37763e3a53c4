-- The records that reading can give.
use Rattle.std.specs.Prelude.{◌≡◌, ℕ, ◌<◌, ◌≤◌, List, [], ◌∷◌, length, ℤ, pos, negsuc, ◌≤ℤ◌, Some, Ok, Err, Option, Result, unsigned_abs}
use Rattle.codes.specs.declared.letters.Contents.{Contents}
use Rattle.refusals.specs.declared.Fault.{Fault}
use Rattle.codes.specs.ParameterTypes.{type_named}
use Rattle.codes.specs.Text.{read_text, read_description}
use Rattle.codes.specs.declared.types.ParameterType.{ParameterType}
use Rattle.decimals.specs.Write.{Canonical, CanonicalDeviation}
use Rattle.fields.specs.Epoch.{Dated, DatedEpoch}
use Rattle.headings.specs.Copies.{header_text}
use Rattle.headings.specs.Headers.{read_header, read_edited_header}
use Rattle.headings.specs.declared.headers.Header.{Header}
use Rattle.records.specs.Copies.{site_text, span_text, parameter_text}
use Rattle.records.specs.Parameters.{read_parameter, read_indexed, parameter_named, parameter_with}
use Rattle.records.specs.Sites.{read_site, site_named, site_with}
use Rattle.records.specs.Spans.{read_span, span_named, span_with}
use Rattle.records.specs.declared.keys.SiteKey.{SiteKey}
use Rattle.records.specs.declared.keys.SolutionKey.{SolutionKey}
use Rattle.records.specs.declared.parameters.ParameterKey.{ParameterKey}
use Rattle.records.specs.declared.parameters.Parameter.{Parameter}
use Rattle.records.specs.declared.sites.Site.{Site}
use Rattle.records.specs.declared.spans.Span.{Span}

-- what is given, if it is given, has P
abbrev pub Gives : {A : Type 0} → (A → Type 0) → Result A Fault → Type 0
Gives P (Ok a) = P a
Gives P (Err e) = Unit {0}

-- each byte can be printed
abbrev pub Printable : List ℕ → Type 0
Printable [] = Unit {0}
Printable (c ∷ cs) = ((32 ≤ c) × (c ≤ 126)) × Printable cs

-- n bytes that reading leaves as they are
pub record KeptBy (read : ℕ → List ℕ → Result (List ℕ) Fault) (n : ℕ) (t : List ℕ) : Type 0 where
  pub size : length t ≡ n
  pub stable : read n t ≡ Ok t
  pub shown : Printable t

abbrev pub KeptText : ℕ → List ℕ → Type 0
KeptText n t = KeptBy read_text n t

abbrev pub KeptDescription : ℕ → List ℕ → Type 0
KeptDescription n t = KeptBy read_description n t

pub record ValidSiteKey (k : SiteKey) : Type 0 where
  pub code : KeptText 4 k.code
  pub point : KeptText 2 k.point

pub record ValidSolutionKey (k : SolutionKey) : Type 0 where
  pub site : ValidSiteKey k.site
  pub solution : KeptText 4 k.solution

-- below 360 degrees, within 90 degrees, from -9999.9 to 99999.9 metres
pub record ValidPosition (p : ℤ × ℤ × ℤ) : Type 0 where
  pub longitude : (pos 0 ≤ℤ p.0) × (p.0 ≤ℤ pos 12959999)
  pub latitude : unsigned_abs p.1 ≤ 3240000
  pub height : (negsuc 99998 ≤ℤ p.2) × (p.2 ≤ℤ pos 999999)

pub record ValidSite (s : Site) : Type 0 where
  pub key : ValidSiteKey s.key
  pub monument : KeptText 9 s.monument
  pub description : KeptDescription 22 s.description
  pub position : ValidPosition (s.longitude, s.latitude, s.height)

pub record ValidSpan (s : Span) : Type 0 where
  pub at : ValidSolutionKey s.key.at
  pub start : DatedEpoch s.start
  pub end : DatedEpoch s.end
  pub mean : DatedEpoch s.mean

pub record ValidParameterKey (k : ParameterKey) : Type 0 where
  pub at : ValidSolutionKey k.at
  pub name : KeptText 6 k.name
  pub epoch : DatedEpoch k.epoch

-- of a type of the table
pub record ValidParameter (p : Parameter) : Type 0 where
  pub key : ValidParameterKey p.key
  pub known : (t : ParameterType) × (type_named p.key.name ≡ Some t)
  pub value : Canonical 14 p.value
  pub deviation : CanonicalDeviation p.deviation

pub record ValidHeader (h : Header) : Type 0 where
  pub file : KeptText 3 h.file_agency
  pub created : Dated h.created
  pub source : KeptText 3 h.data_agency
  pub start : Dated h.start
  pub end : Dated h.end

-- what reading gives of a line that can be printed is valid
abbrev pub SitesAreValid : Type 0
SitesAreValid = (line : List ℕ) → Printable line → Gives ValidSite (read_site line)

abbrev pub SpansAreValid : Type 0
SpansAreValid = (line : List ℕ) → Printable line → Gives ValidSpan (read_span line)

abbrev pub ParametersAreValid : Type 0
ParametersAreValid = (line : List ℕ) → Printable line → Gives ValidParameter (read_parameter line)

abbrev pub HeadersAreValid : Type 0
HeadersAreValid = (line : List ℕ) → Printable line → Gives (λ h. ValidHeader h.0) (read_header line) × Gives ValidHeader (read_edited_header line)

-- what is written of a valid record is read as it was
abbrev pub SitesComeBack : Type 0
SitesComeBack = (s : Site) → ValidSite s → read_site (site_text s) ≡ Ok s

abbrev pub SpansComeBack : Type 0
SpansComeBack = (s : Span) → ValidSpan s → read_span (span_text s) ≡ Ok s

abbrev pub ParametersComeBack : Type 0
ParametersComeBack = (n : ℕ) (p : Parameter) → ValidParameter p → (read_parameter (parameter_text n p) ≡ Ok p) × (n < 100000 → read_indexed (parameter_text n p) ≡ Ok (n, p))

abbrev pub HeadersComeBack : Type 0
HeadersComeBack = (h : Header) (n : ℕ) (letters : List (Option Contents)) → ValidHeader h → (read_edited_header (header_text h n letters) ≡ Ok h) × (n < 100000 → read_header (header_text h n letters) ≡ Ok (h, n))

-- a line whose record is read names that record
abbrev pub SitesAreNamed : Type 0
SitesAreNamed = (line : List ℕ) (s : Site) → read_site line ≡ Ok s → site_named line ≡ Ok (site_with s.key)

abbrev pub SpansAreNamed : Type 0
SpansAreNamed = (line : List ℕ) (s : Span) → read_span line ≡ Ok s → span_named line ≡ Ok (span_with s.key)

abbrev pub ParametersAreNamed : Type 0
ParametersAreNamed = (line : List ℕ) (p : Parameter) → read_parameter line ≡ Ok p → parameter_named line ≡ Ok (parameter_with p.key)
