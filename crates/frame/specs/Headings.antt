-- What a title line and an end line say after their sign.
use Rattle.std.specs.Prelude.{ℕ, ◌+◌, Bool, true, false, cond, ◌&&◌, List, [], ◌∷◌, ◌++◌, length, take, drop, Some, None, codes, Option, ◌==◌, slice_index}
use Rattle.decimals.specs.Number.{blank}
use Rattle.frame.specs.Lines.{padded}
use Rattle.frame.specs.Titles.{name_of, titles}
use Rattle.frame.specs.declared.heading.Additions.{Additions}
use Rattle.frame.specs.declared.heading.Additions.TheVariants.{Nothing, Form, Anything}
use Rattle.frame.specs.declared.heading.Caption.{Caption}
use Rattle.frame.specs.declared.heading.Heading.{Heading}
use Rattle.frame.specs.declared.heading.MatrixForm.{MatrixForm}
use Rattle.codes.specs.declared.letters.MatrixKind.{MatrixKind}
use Rattle.codes.specs.declared.letters.MatrixKind.TheVariants.{Correlation, Covariance, Information}
use Rattle.triangle.specs.declared.row.Side.{Side}
use Rattle.triangle.specs.declared.row.Side.TheVariants.{Lower, Upper}
use Rattle.frame.specs.declared.line.Line.{Line}
use Rattle.frame.specs.declared.title.Title.{Title}
use Rattle.frame.specs.declared.title.Title.TheVariants.{FileReference, FileComment, InputHistory, InputFiles, InputAcknowledgements, NutationData, PrecessionData, SourceId, SiteId, SiteData, SiteReceiver, SiteAntenna, SiteGpsPhaseCenter, SiteGalPhaseCenter, SiteEccentricity, SatelliteId, SatellitePhaseCenter, BiasEpochs, SolutionEpochs, SolutionStatistics, SolutionEstimate, SolutionApriori, SolutionMatrixEstimate, SolutionMatrixApriori, SolutionNormalEquationVector, SolutionNormalEquationMatrix}

-- a byte that is not blank, after a gap or not
abbrev pub spelled : Bool → ℕ → List ℕ
spelled gap b = cond gap (32 ∷ b ∷ []) (b ∷ [])

-- the words one blank apart: one blank for each run of blanks, and none at the end
abbrev pub squeeze : Bool → List ℕ → List ℕ
squeeze gap [] = []
squeeze gap (b ∷ bs) = cond (b == 32) (squeeze true bs) (spelled gap b ++ squeeze false bs)

abbrev pub squeezed : List ℕ → List ℕ
squeezed text = squeeze false text

abbrev pub headed : List ℕ → Heading
headed text = record { text = padded 32 79 text; len = length text }

-- n columns from column i on, counted from 0
abbrev pub columns : ℕ → ℕ → Line → List ℕ
columns i n ln = take n (drop i ln.columns)

-- the words after the sign of a line
unfoldable pub heading_of : Line → Heading
heading_of ln = headed (squeezed (columns 1 79 ln))

abbrev pub begins : List ℕ → List ℕ → Bool
begins xs [] = true
begins [] (w ∷ ws) = false
begins (x ∷ xs) (w ∷ ws) = x == w && begins xs ws

-- the text is the word, and then blanks
unfoldable pub is_text : List ℕ → List ℕ → Bool
is_text w text = begins text w && blank (drop (length w) text)

-- the text begins with the word and a blank
unfoldable pub first_word_is : List ℕ → List ℕ → Bool
first_word_is w text = begins text w && slice_index text (length w) == 32

-- the first of some titles whose name is the text's first word
abbrev pub title_among : List ℕ → List Title → Option Title
title_among text [] = None
title_among text (k ∷ ks) = cond (first_word_is (name_of k) text) (Some k) (title_among text ks)

unfoldable pub title_named : List ℕ → Option Title
title_named text = title_among text titles

abbrev pub form : Side → MatrixKind → Option MatrixForm
form t k = Some (record { side = t; kind = k })

-- L or U, and CORR, COVA or INFO
abbrev pub form_of : List ℕ → Option MatrixForm
form_of text =
    cond (is_text (codes "L CORR") text) (form Lower Correlation)
    (cond (is_text (codes "L COVA") text) (form Lower Covariance)
    (cond (is_text (codes "L INFO") text) (form Lower Information)
    (cond (is_text (codes "U CORR") text) (form Upper Correlation)
    (cond (is_text (codes "U COVA") text) (form Upper Covariance) (cond (is_text (codes "U INFO") text) (form Upper Information) None)))))

-- the titles that are taken up add nothing but the matrix of the estimates, which adds its form; the others add what they like
abbrev pub adds_by : Title → Additions
adds_by FileReference = Anything
adds_by FileComment = Anything
adds_by InputHistory = Anything
adds_by InputFiles = Anything
adds_by InputAcknowledgements = Anything
adds_by NutationData = Anything
adds_by PrecessionData = Anything
adds_by SourceId = Anything
adds_by SiteId = Nothing
adds_by SiteData = Anything
adds_by SiteReceiver = Anything
adds_by SiteAntenna = Anything
adds_by SiteGpsPhaseCenter = Anything
adds_by SiteGalPhaseCenter = Anything
adds_by SiteEccentricity = Anything
adds_by SatelliteId = Anything
adds_by SatellitePhaseCenter = Anything
adds_by BiasEpochs = Anything
adds_by SolutionEpochs = Nothing
adds_by SolutionStatistics = Anything
adds_by SolutionEstimate = Nothing
adds_by SolutionApriori = Nothing
adds_by SolutionMatrixEstimate = Form
adds_by SolutionMatrixApriori = Anything
adds_by SolutionNormalEquationVector = Anything
adds_by SolutionNormalEquationMatrix = Anything

abbrev pub plain : Title → Option Caption
plain k = Some (record { title = k; form = None })

abbrev pub with_form : Title → Option MatrixForm → Option Caption
with_form k None = None
with_form k (Some f) = Some (record { title = k; form = Some f })

abbrev pub caption_adding : Title → List ℕ → Additions → Option Caption
caption_adding k rest Nothing = cond (blank rest) (plain k) None
caption_adding k rest Form = with_form k (form_of rest)
caption_adding k rest Anything = plain k

abbrev pub caption_by : List ℕ → Option Title → Option Caption
caption_by text None = None
caption_by text (Some k) = caption_adding k (drop (length (name_of k) + 1) text) (adds_by k)

-- what the words of a heading name
abbrev pub caption_of : List ℕ → Option Caption
caption_of text = caption_by text (title_named text)
