-- A small solution's lines, as a fair copy has them.
use Rattle.std.specs.Prelude.{◌≡◌, ℕ, true, false, List, [], ◌∷◌, pos, negsuc, Some, None, codes}
use Rattle.codes.specs.Text.{padded}
use Rattle.codes.specs.declared.letters.Constraint.TheVariants.{Unconstrained}
use Rattle.codes.specs.declared.letters.Contents.TheVariants.{Stations}
use Rattle.codes.specs.declared.letters.Technique.TheVariants.{Gnss}
use Rattle.fields.specs.declared.epochs.Epoch.TheVariants.{At}
use Rattle.fields.specs.declared.epochs.Moment.{Moment}
use Rattle.headings.specs.Copies.{header_text}
use Rattle.headings.specs.Elements.{matrix_text}
use Rattle.headings.specs.declared.headers.Header.{Header}
use Rattle.records.specs.Copies.{site_text, span_text, parameter_text}
use Rattle.records.specs.declared.keys.SolutionKey.{SolutionKey}
use Rattle.records.specs.declared.parameters.Parameter.{Parameter}
use Rattle.records.specs.declared.sites.Site.{Site}
use Rattle.records.specs.declared.spans.Span.{Span}

abbrev pub on : ℕ → ℕ → Moment
on d s = record { year = 2010; day = d; second = s }

abbrev pub gate : SolutionKey
gate = record { site = record { code = codes "GRD1"; point = codes "A " }; solution = codes "1   " }

abbrev pub quarry : Header
quarry = record { file_agency = codes "AAA"; created = on 3 0; data_agency = codes "BBB"; start = on 1 0; end = on 2 0; technique = Gnss; constraint = Unconstrained }

abbrev pub quarry_gate : Site
quarry_gate = record { key = gate.site; monument = codes "10000M001"; technique = Gnss; description = padded 22 (codes "Quarry gate"); longitude = pos 450000; latitude = negsuc 9004; height = negsuc 124 }

abbrev pub first_day : Span
first_day = record { key = record { at = gate; technique = Gnss }; start = At (on 1 0); end = At (on 2 0); mean = At (on 1 43200) }

abbrev pub easting : Parameter
easting = record {
  key = record { at = gate; name = codes "STAX  "; epoch = At (on 1 43200) };
  constraint = Unconstrained;
  value = record { negative = false; mantissa = 420000000000000; exponent = pos 6 };
  deviation = record { mantissa = 150000; exponent = negsuc 2 };
}

abbrev pub northing : Parameter
northing = record {
  key = record { at = gate; name = codes "STAY  "; epoch = At (on 1 43200) };
  constraint = Unconstrained;
  value = record { negative = true; mantissa = 250000000000000; exponent = negsuc 0 };
  deviation = record { mantissa = 0; exponent = pos 0 };
}

-- the site's line
abbrev pub gate_line : List ℕ
gate_line = padded 80 (codes " GRD1 A  10000M001 P Quarry gate             12 30  0.0  -0 15  0.5   -12.5")

abbrev pub LinesOfTheGate : Type 0
LinesOfTheGate =
    (header_text quarry 2 (Some Stations ∷ None ∷ None ∷ None ∷ None ∷ None ∷ []) ≡ padded 80 (codes "%=SNX 2.02 AAA 10:003:00000 BBB 10:001:00000 10:002:00000 P 00002 2 S"))
    × (site_text quarry_gate ≡ padded 80 (codes " GRD1 A  10000M001 P Quarry gate             12 30  0.0  -0 15  0.5   -12.5"))
    × (span_text first_day ≡ padded 80 (codes " GRD1 A  1    P 10:001:00000 10:002:00000 10:001:43200"))
    × (parameter_text 1 easting ≡ codes "     1 STAX   GRD1 A  1    10:001:43200 m    2  4.20000000000000E+06 1.50000E-03")
    × (parameter_text 2 northing ≡ codes "     2 STAY   GRD1 A  1    10:001:43200 m    2 -2.50000000000000E-01 0.00000E+00")
    × (matrix_text 1 1 (record { negative = false; mantissa = 225000000000000; exponent = negsuc 5 }) ≡ padded 80 (codes "     1     1  2.25000000000000E-06"))
    × (matrix_text 2 1 (record { negative = true; mantissa = 100000000000000; exponent = negsuc 6 }) ≡ padded 80 (codes "     2     1 -1.00000000000000E-07"))
