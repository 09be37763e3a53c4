-- A head set, on the register as in the rules. Assumes nothing.
use Rattle.codes.specs.declared.letters.MatrixKind.{MatrixKind}
use Rattle.model.proofs.Keeping.{head-kept}
use Rattle.model.proofs.Steps.{does_accepted, stands_as}
use Rattle.model.specs.Edits.{with_head}
use Rattle.model.specs.Solutions.{Solution}
use Rattle.model.specs.States.{Does, Stands, State, state_of}
use Rattle.model.specs.Steps.{head_set}
use Rattle.record_laws.specs.Valid.{ValidHeader}
use Rattle.headings.specs.declared.headers.Head.{Head}
use Rattle.headings.specs.declared.headers.Header.{Header}
use Rattle.std.proofs.Common.{Some, Ok, Option, refl, ap}

head_stands : (h : Header) → ValidHeader h → (kind : MatrixKind) (x : State) (s : Solution) → Stands x s
    → Stands (head_set x (Some (record { header = h; kind = kind }))) (with_head s (Some (record { header = h; kind = kind })))
head_stands h v kind x s st =
    let head : Option Head = Some (record { header = h; kind = kind }) in
    stands_as (head_set x head) (state_of x.places (with_head s head)) (with_head s head) (with_head s head) (ap (λ y. head_set y head) st.laid_out) refl
    (record {
      limits = st.limits;
      laid_out = refl;
      fits = record { sites = st.fits.sites; spans = st.fits.spans; estimates = st.fits.estimates; aprioris = st.fits.aprioris };
      kept = head-kept head v s st.kept;
    })

pub head_set_does : (h : Header) → ValidHeader h → (kind : MatrixKind) (x : State)
    → Does (λ P s. Ok (with_head s (Some (record { header = h; kind = kind })))) x (Ok tt) (head_set x (Some (record { header = h; kind = kind })))
head_set_does h v kind x =
    let head : Option Head = Some (record { header = h; kind = kind }) in
    does_accepted (λ P s. Ok (with_head s head)) (λ s. with_head s head) x (head_set x head) refl (λ s st. refl) (head_stands h v kind x)
