-- A copy is its lines, and how long it is. Assumes nothing.
use Rattle.std.proofs.Common.{◌≡◌, ◌+◌, ◌<◌, ◌≤◌, ◌&&◌, leb, map, length, take, sym, refl, ap, ◌∙◌, subst, arith}
use Rattle.copies.specs.Copy.{contents_of, copy_lines, ended, fair_copy, fair_lines, header_of, matrix_lines, numbered, shorn, six_places}
use Rattle.copies.specs.Lengths.{copy_length, nonzero}
use Rattle.copy_laws.proofs.Assembled.{Good, Line, all_at_among, all_by_among, assembled, assembled_good, assembled_long}
use Rattle.copy_laws.proofs.Blocks.{all_good, length_matrix, length-numbered, lines_long, map-lines, map-taken, matrix_lines_lem, matrix_taken, nonzero-few, numbered-lines, numbered-taken, trim}
use Rattle.copy_laws.proofs.Splitting.{printed_unbroken, split-lines}
use Rattle.copy_laws.proofs.Widths.{Cut, contents_few, header-cut, site-cut, span_cut}
use Rattle.copy_laws.specs.CopyLaws.{CopiesAreLines, CopyIsLines, Writable}
use Rattle.decimals.specs.Number.{zero_number}
use Rattle.frame.specs.Lines.{lines}
use Rattle.model.specs.Solutions.{Solution, cell_of}
use Rattle.model.specs.States.{ValidHead}
use Rattle.record_laws.specs.Valid.{ValidHeader, ValidParameter}
use Rattle.headings.specs.Copies.{header_text}
use Rattle.headings.specs.declared.headers.Head.{Head}
use Rattle.records.specs.Copies.{site_text, span_text}
use Rattle.std.proofs.ByRecursion.{All-weaker}
use Rattle.std.proofs.lemmas.List.{length-map}
use Rattle.std.proofs.lemmas.Bool.{and_parts, leb-true}
use Rattle.std.specs.List.{AllByRecursion as All}
use Rattle.triangle.proofs.Drawn.{drawn_as}
use Rattle.triangle.proofs.Tri.{tri_bound}
use Rattle.triangle.specs.Triangle.{rows_of}

-- ---- the numbers of records

pub record Few (s : Solution) : Type 0 where
  pub sites : length s.sites ≤ 1000
  pub spans : length s.spans ≤ 2000
  pub estimates : length s.estimates ≤ 2000
  pub aprioris : length s.aprioris ≤ 2000

pub few : (h : Head) (s : Solution) → Writable h s → Few s
few h s w =
    let (P, (a, f)) = w.few in
    let (i, b) = and_parts (leb P.sites 1000) (leb P.spans 2000 && (leb P.estimates 2000 && leb P.aprioris 2000)) a in
    let (j, c) = and_parts (leb P.spans 2000) (leb P.estimates 2000 && leb P.aprioris 2000) b in
    let (k, l) = and_parts (leb P.estimates 2000) (leb P.aprioris 2000) c in
    let x = leb-true P.sites 1000 i in
    let y = leb-true P.spans 2000 j in
    let z = leb-true P.estimates 2000 k in
    let t = leb-true P.aprioris 2000 l in
    record { sites = omega arith; spans = omega arith; estimates = omega arith; aprioris = omega arith }

-- ---- the lines of a solution that a register can hold

pub copy_is : (h : Head) (s : Solution) → fair_copy h s ≡ ended (fair_lines h s)
unfolding fair_copy
copy_is h s = refl

module _ (h : Head) (s : Solution) (w : Writable h s) where
  pub head_valid : ValidHeader h.header
  head_valid = subst ValidHead w.head w.kept.readable.head

  pub header_line_lem : Cut (67 + (length (contents_of s.estimates) + length (contents_of s.estimates))) (header_text h.header (length s.estimates) (six_places (contents_of s.estimates)))
  header_line_lem = header-cut h.header (length s.estimates) (contents_of s.estimates) head_valid (contents_few s.estimates)

  sites-cut : All (λ x. Cut 75 (site_text x)) s.sites
  sites-cut = all_by_among (λ x. Cut 75 (site_text x)) s.sites (λ x m. site-cut x (w.kept.readable.sites x m))

  spans-cut : All (λ x. Cut 54 (span_text x)) s.spans
  spans-cut = all_by_among (λ x. Cut 54 (span_text x)) s.spans (λ x m. span_cut x (w.kept.readable.spans x m))

  estimates_valid : All ValidParameter s.estimates
  estimates_valid = all_by_among ValidParameter s.estimates w.kept.readable.estimates

  aprioris_valid : All ValidParameter s.aprioris
  aprioris_valid = all_by_among ValidParameter s.aprioris w.kept.readable.aprioris

  site-lines : All (Line 75) (map (λ x. shorn (site_text x)) s.sites)
  site-lines = map-lines 75 site_text s.sites sites-cut

  span_lines : All (Line 54) (map (λ x. shorn (span_text x)) s.spans)
  span_lines = map-lines 54 span_text s.spans spans-cut

  estimate_lines : All (Line 80) (numbered trim 1 s.estimates)
  estimate_lines = numbered-lines 1 s.estimates estimates_valid

  apriori_lines : All (Line 80) (numbered trim 1 s.aprioris)
  apriori_lines = numbered-lines 1 s.aprioris aprioris_valid

  cell-lines : All (Line 34) (matrix_lines trim (cell_of s) (length s.estimates))
  cell-lines = matrix_lines_lem (cell_of s) (length s.estimates)

  -- cut at the width of its kind, each line is without blanks at its end
  lines-taken : copy_lines take h s ≡ fair_lines h s
  lines-taken = λ i. assembled h.kind (sym header_line_lem.taken i) (map-taken 75 site_text s.sites sites-cut i) (map-taken 54 span_text s.spans spans-cut i)
      (numbered-taken 1 s.estimates estimates_valid i) (numbered-taken 1 s.aprioris aprioris_valid i) (matrix_taken (cell_of s) (length s.estimates) i)

  lines-good : All Good (fair_lines h s)
  lines-good =
      assembled_good h.kind (header_of trim h s.estimates) (map (λ x. shorn (site_text x)) s.sites) (map (λ x. shorn (span_text x)) s.spans)
      (numbered trim 1 s.estimates) (numbered trim 1 s.aprioris) (matrix_lines trim (cell_of s) (length s.estimates))
      (header_line_lem.shown, header_line_lem.short, header_line_lem.ended) (all_good 75 _ site-lines) (all_good 54 _ span_lines)
      (all_good 80 _ estimate_lines) (all_good 80 _ apriori_lines) (all_good 34 _ cell-lines)

  lines_split : lines (ended (fair_lines h s)) ≡ fair_lines h s
  lines_split = split-lines (fair_lines h s) (All-weaker Good (All (λ c. c ≡ 10 → ⊥)) (λ l g. printed_unbroken l g.0) (fair_lines h s) lines-good)

  -- the cells by row and column are the list of cells
  cells_drawn : nonzero (rows_of (length s.estimates) (cell_of s)) ≡ nonzero s.cells
  cells_drawn = sym (ap nonzero (drawn_as zero_number s.cells (length s.estimates) w.kept.ordered.whole (cell_of s) (λ a b. refl)))

  lines-measured : length (ended (fair_lines h s)) ≡ copy_length s
  lines-measured =
      let all = assembled_long h.kind (header_of trim h s.estimates) (map (λ x. shorn (site_text x)) s.sites) (map (λ x. shorn (span_text x)) s.spans)
      (numbered trim 1 s.estimates) (numbered trim 1 s.aprioris) (matrix_lines trim (cell_of s) (length s.estimates)) in
      let header = header_line_lem.long in
      let sites = lines_long 75 (length s.sites) (map (λ x. shorn (site_text x)) s.sites) site-lines (length-map s.sites (λ x. shorn (site_text x))) in
      let spans = lines_long 54 (length s.spans) (map (λ x. shorn (span_text x)) s.spans) span_lines (length-map s.spans (λ x. shorn (span_text x))) in
      let estimates = lines_long 80 (length s.estimates) (numbered trim 1 s.estimates) estimate_lines (length-numbered 1 s.estimates) in
      let aprioris = lines_long 80 (length s.aprioris) (numbered trim 1 s.aprioris) apriori_lines (length-numbered 1 s.aprioris) in
      let cells = lines_long 34 (nonzero s.cells) (matrix_lines trim (cell_of s) (length s.estimates)) cell-lines (length_matrix (cell_of s) (length s.estimates) ∙ cells_drawn) in
      omega arith

  measure_small : copy_length s < 100000000
  measure_small =
      let f = few h s w in
      let letters = contents_few s.estimates in
      let whole = w.kept.ordered.whole in
      let cells = nonzero-few s.cells in
      let rows = tri_bound (length s.estimates) f.estimates in
      omega arith

  copy_lines_lem : CopyIsLines h s
  copy_lines_lem = record {
    split = ap lines (copy_is h s) ∙ lines_split;
    shown = all_at_among Good (fair_lines h s) lines-good;
    cut = lines-taken;
    long = ap length (copy_is h s) ∙ lines-measured;
    small = subst (λ n. n < 100000000) (sym (ap length (copy_is h s) ∙ lines-measured)) measure_small;
  }

pub copies_are_lines : CopiesAreLines
copies_are_lines h s w = copy_lines_lem h s w

-- the lines cut at their widths, each with its end, are the copy, and as long as it is said to be
pub copy_written : (h : Head) (s : Solution) → Writable h s → (ended (copy_lines take h s) ≡ fair_copy h s) × (length (ended (copy_lines take h s)) ≡ copy_length s)
copy_written h s w =
    let c : CopyIsLines h s = copies_are_lines h s w in
    let e : ended (copy_lines take h s) ≡ fair_copy h s = ap ended c.cut ∙ sym (copy_is h s) in
    (e, ap length e ∙ c.long)
