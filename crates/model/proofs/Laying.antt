-- What follows where register and tables stand for a solution. Assumes nothing.
use Rattle.std.specs.Cmp.{IsTotalOrder}
use Rattle.std.proofs.Common.{◌≡◌, ℕ, ◌+◌, ◌-◌, ◌≤◌, Bool, true, false, not, ◌&&◌, ◌||◌, leb, List, [], ◌∷◌, length, take, replicate, Some, None, Ok, Err, codes, Option, Ordering, Less, Equal, Greater, sym, refl, ap, ◌∙◌, ap₂, inl, arith, Result, is_ok}
use Rattle.codes.specs.Order.{same_text}
use Rattle.decimals.specs.Number.{zero_number}
use Rattle.fields.specs.Angle.{columns}
use Rattle.frame.specs.Lines.{all_printable, fits, kind_of, line_of, printable}
use Rattle.frame.specs.declared.line.Line.{Line}
use Rattle.frame.specs.declared.line.LineKind.{LineKind}
use Rattle.frame.specs.declared.line.LineKind.TheVariants.{Bound, Comment, Title, End, Data}
use Rattle.model.specs.Handed.{data_line, data_of, demand, fit_line, header_line, known_kind}
use Rattle.model.specs.Needs.{has_site, has_span, served, stationed}
use Rattle.model.specs.Solutions.{Solution}
use Rattle.model.specs.States.{Kept, Stands, State, allowed, blank_state, nothing, own, state_of}
use Rattle.model.specs.Steps.{estimate_place, served_in, shown, site_known}
use Rattle.model.specs.declared.counts.Counts.{Counts}
use Rattle.records.specs.KeyOrders.{parameter_order_lem, site_order_lem}
use Rattle.record_laws.proofs.Validity.{given, print_blanks, print_both, then_holds}
use Rattle.records.specs.Parameters.{blank_parameter, parameter_order}
use Rattle.records.specs.Sites.{blank_site, site_order, site_with}
use Rattle.records.specs.Spans.{blank_span}
use Rattle.record_laws.specs.Valid.{Gives, Printable}
use Rattle.records.specs.declared.keys.SiteKey.{SiteKey}
use Rattle.records.specs.declared.parameters.Parameter.{Parameter}
use Rattle.refusals.specs.declared.Fault.TheVariants.{NoHeaderLine, UnfitLine}
use Rattle.std.proofs.lemmas.List.{length-replicate}
use Rattle.std.proofs.lemmas.Bool.{and_from, and_parts, cond_both, eq-eqb, leb-true}
use Rattle.tables.proofs.Places.{sought-place}
use Rattle.tables.proofs.Standing.{length-laid, take-laid}
use Rattle.tables.specs.Keys.{Rising, by3}
use Rattle.tables.specs.Lists.{holds, laid, place, place_from}
use Rattle.tables.specs.Rows.{filled, known, sought, used_rows}
use Rattle.triangle.proofs.Tri.{tri_le}
use Rattle.triangle.specs.Triangle.{tri}

-- ---- records laid out before blanks

pub used-laid : {R : Type 0} (b : R) (n : ℕ) (xs : List R) → length xs ≤ n → used_rows (length xs) (laid b n xs) ≡ xs
used-laid b n xs h =
    let e : filled (length xs) (laid b n xs) ≡ length xs = omega (arith, length-laid b n xs h) in
    ap (λ k. take k (laid b n xs)) e ∙ take-laid b n xs h

found_by : (q : Ordering) (p : Result ℕ ℕ) (i : ℕ) (h : Bool) → is_ok p ≡ h → is_ok (by3 q p (Ok i) (Err i)) ≡ by3 q h true false
found_by Less p i h e = e
found_by Equal p i h e = refl
found_by Greater p i h e = refl

found_from : {R : Type 0} (cmp : R → R → Ordering) (r : R) (xs : List R) (i : ℕ) → is_ok (place_from cmp r i xs) ≡ holds cmp r xs
found_from cmp r [] i = refl
found_from cmp r (x ∷ xs) i = found_by (cmp x r) (place_from cmp r (i + 1) xs) i (holds cmp r xs) (found_from cmp r xs (i + 1))

pub found-place : {R : Type 0} (cmp : R → R → Ordering) (r : R) (xs : List R) → is_ok (place cmp r xs) ≡ holds cmp r xs
found-place cmp r xs = found_from cmp r xs 0

-- a search by halving finds what the list has
pub known-laid : {R : Type 0} (cmp : R → R → Ordering) → IsTotalOrder cmp → (b r : R) (n : ℕ) (xs : List R) → length xs ≤ n → Rising cmp xs
    → known cmp r (length xs) (laid b n xs) ≡ holds cmp r xs
known-laid cmp o b r n xs h up = ap (λ ys. is_ok (sought cmp r ys)) (used-laid b n xs h) ∙ ap is_ok (sought-place cmp o r xs up) ∙ found-place cmp r xs

-- ---- what the tables show

pub cells_fit : (x : State) (s : Solution) → Stands x s → length s.cells ≤ tri x.places.estimates
cells_fit x s h = omega (arith, h.kept.ordered.whole, tri_le (length s.estimates) x.places.estimates h.fits.estimates)

pub used-sites : (x : State) (s : Solution) → Stands x s → used_rows x.used.sites x.sites ≡ s.sites
used-sites x s h = ap (λ y. used_rows y.used.sites y.sites) h.laid_out ∙ used-laid blank_site x.places.sites s.sites h.fits.sites

pub used-spans : (x : State) (s : Solution) → Stands x s → used_rows x.used.spans x.spans ≡ s.spans
used-spans x s h = ap (λ y. used_rows y.used.spans y.spans) h.laid_out ∙ used-laid blank_span x.places.spans s.spans h.fits.spans

pub used-estimates : (x : State) (s : Solution) → Stands x s → used_rows x.used.estimates x.estimates ≡ s.estimates
used-estimates x s h =
    ap (λ y. used_rows y.used.estimates y.estimates) h.laid_out ∙ used-laid blank_parameter x.places.estimates s.estimates h.fits.estimates

pub used-aprioris : (x : State) (s : Solution) → Stands x s → used_rows x.used.aprioris x.aprioris ≡ s.aprioris
used-aprioris x s h =
    ap (λ y. used_rows y.used.aprioris y.aprioris) h.laid_out ∙ used-laid blank_parameter x.places.aprioris s.aprioris h.fits.aprioris

pub used-cells : (x : State) (s : Solution) → Stands x s → take (tri x.used.estimates) x.cells ≡ s.cells
used-cells x s h =
    let m = tri x.places.estimates in
    ap (λ y. take (tri y.used.estimates) y.cells) h.laid_out
    ∙ ap (λ k. take k (laid zero_number m s.cells)) (sym h.kept.ordered.whole)
    ∙ take-laid zero_number m s.cells (cells_fit x s h)

-- the used places show the solution
pub shown_is : (x : State) (s : Solution) → Stands x s → shown x ≡ s
shown_is x s h =
    let head = ap (λ y. y.head) h.laid_out in
    let sites = used-sites x s h in
    let spans = used-spans x s h in
    let estimates = used-estimates x s h in
    let aprioris = used-aprioris x s h in
    let cells = used-cells x s h in
    λ i. record { head = head i; sites = sites i; spans = spans i; estimates = estimates i; aprioris = aprioris i; cells = cells i }

-- ---- lengths

few-estimates : (P : Counts) → allowed P ≡ true → leb P.estimates 2000 ≡ true
few-estimates P h =
    let spans = (and_parts (leb P.sites 1000) _ h).1 in
    let estimates = (and_parts (leb P.spans 2000) _ spans).1 in
    (and_parts (leb P.estimates 2000) (leb P.aprioris 2000) estimates).0

pub stands_own : (x : State) (s : Solution) → Stands x s → own x ≡ true
stands_own x s h =
    let P = x.places in
    let sites : length x.sites ≡ P.sites = ap (λ y. length y.sites) h.laid_out ∙ length-laid blank_site P.sites s.sites h.fits.sites in
    let spans : length x.spans ≡ P.spans = ap (λ y. length y.spans) h.laid_out ∙ length-laid blank_span P.spans s.spans h.fits.spans in
    let estimates : length x.estimates ≡ P.estimates =
    ap (λ y. length y.estimates) h.laid_out ∙ length-laid blank_parameter P.estimates s.estimates h.fits.estimates in
    let aprioris : length x.aprioris ≡ P.aprioris =
    ap (λ y. length y.aprioris) h.laid_out ∙ length-laid blank_parameter P.aprioris s.aprioris h.fits.aprioris in
    let cells : length x.cells ≡ tri P.estimates =
    ap (λ y. length y.cells) h.laid_out ∙ length-laid zero_number (tri P.estimates) s.cells (cells_fit x s h) in
    let row : length x.row ≡ P.estimates = ap (λ y. length y.row) h.laid_out ∙ length-replicate P.estimates 0 in
    and_from _ _ (eq-eqb _ _ sites)
    (and_from _ _ (eq-eqb _ _ spans)
    (and_from _ _ (eq-eqb _ _ estimates)
    (and_from _ _ (eq-eqb _ _ aprioris)
    (and_from _ _ (and_from _ _ (few-estimates P h.limits) (eq-eqb _ _ cells)) (eq-eqb _ _ row)))))

-- ---- searches

pub site-known : (x : State) (s : Solution) (k : SiteKey) → Stands x s → site_known x k ≡ has_site s k
site-known x s k h =
    ap (λ y. site_known y k) h.laid_out ∙ known-laid site_order site_order_lem blank_site (site_with k) x.places.sites s.sites h.fits.sites h.kept.ordered.sites

pub served_in_lem : (x : State) (s : Solution) (p : Parameter) → Stands x s → served_in x p ≡ served s p
served_in_lem x s p h =
    ap₂ (λ b t. not (stationed p) || (b && has_span t p.key.at)) (site-known x s p.key.at.site h) (shown_is x s h)

pub estimate_place_lem : (x : State) (s : Solution) (r : Parameter) → Stands x s → estimate_place r x ≡ place parameter_order r s.estimates
estimate_place_lem x s r h =
    ap (sought parameter_order r) (used-estimates x s h) ∙ sought-place parameter_order parameter_order_lem r s.estimates h.kept.ordered.estimates

-- ---- a register that was just made

pub nothing-kept : Kept nothing
nothing-kept = record {
  ordered = record { sites = tt; spans = tt; estimates = tt; aprioris = tt; whole = refl };
  readable = record { head = tt; sites = λ x m. absurd m; spans = λ x m. absurd m; estimates = λ x m. absurd m; aprioris = λ x m. absurd m; cells = λ i j. inl refl };
  needs = record { spans = λ x m. absurd m; estimates = λ x m. absurd m; aprioris = λ x m. absurd m };
}

pub made_stands : (P : Counts) → allowed P ≡ true → Stands (state_of P nothing) nothing
made_stands P h = record {
  limits = h;
  laid_out = refl;
  fits = record { sites = omega arith; spans = omega arith; estimates = omega arith; aprioris = omega arith };
  kept = nothing-kept;
}

blanks : {R : Type 0} (b : R) (n : ℕ) → laid b n [] ≡ replicate n b
blanks b n = let e : n - 0 ≡ n = omega arith in ap (λ k. replicate k b) e

pub blank_state_lem : (P : Counts) → state_of P nothing ≡ blank_state P
blank_state_lem P =
    let sites = blanks blank_site P.sites in
    let spans = blanks blank_span P.spans in
    let estimates = blanks blank_parameter P.estimates in
    let aprioris = blanks blank_parameter P.aprioris in
    let cells = blanks zero_number (tri P.estimates) in
    λ i. record {
      places = P;
      used = record { sites = 0; spans = 0; estimates = 0; aprioris = 0 };
      head = None;
      sites = sites i;
      spans = spans i;
      estimates = estimates i;
      aprioris = aprioris i;
      cells = cells i;
      row = replicate P.estimates 0;
    }

-- ---- what is handed in can be printed

all_printable_lem : (bs : List ℕ) → all_printable bs ≡ true → Printable bs
all_printable_lem [] e = tt
all_printable_lem (b ∷ bs) e =
    let (p, q) = and_parts (printable b) (all_printable bs) e in
    let (low, high) = and_parts (leb 32 b) (leb b 126) p in
    ((leb-true 32 b low, leb-true b 126 high), all_printable_lem bs q)

line_printable : (bs : List ℕ) → fits bs ≡ true → Printable (line_of bs).columns
line_printable bs e =
    print_both bs (replicate (80 - length bs) 32) (all_printable_lem bs (and_parts (leb (length bs) 80) (all_printable bs) e).1) (print_blanks (80 - length bs))

fit-printable : (bs : List ℕ) → Gives (λ (ln : Line). Printable ln.columns) (fit_line bs)
fit-printable bs = cond_both (fits bs) (Ok (line_of bs)) (Err UnfitLine) (Gives (λ (ln : Line). Printable ln.columns)) (line_printable bs) (λ _. tt)

fit-given : (bs : List ℕ) (ln : Line) → fit_line bs ≡ Ok ln → Printable ln.columns
fit-given bs ln e = given (λ (l : Line). Printable l.columns) (fit_line bs) ln e (fit-printable bs)

data_printable : (ln : Line) (k : Option LineKind) → Printable ln.columns → Gives Printable (data_of ln k)
data_printable ln None p = tt
data_printable ln (Some Bound) p = tt
data_printable ln (Some Comment) p = tt
data_printable ln (Some Title) p = tt
data_printable ln (Some End) p = tt
data_printable ln (Some Data) p = p

pub data_line_printable : (bs line : List ℕ) → data_line bs ≡ Ok line → Printable line
data_line_printable bs line e =
    given Printable (data_line bs) line e
    (then_holds Printable (fit_line bs) (λ ln. data_of ln (kind_of ln)) (λ ln f. data_printable ln (kind_of ln) (fit-given bs ln f)))

pub header_line_printable : (bs line : List ℕ) → header_line bs ≡ Ok line → Printable line
header_line_printable bs line e =
    given Printable (header_line bs) line e
    (then_holds Printable (fit_line bs) _ (λ ln f.
    then_holds Printable (known_kind (kind_of ln)) _ (λ k g.
    then_holds Printable (demand NoHeaderLine (same_text (columns 0 10 ln.columns) (codes "%=SNX 2.02"))) _ (λ u g.
    fit-given bs ln f))))
