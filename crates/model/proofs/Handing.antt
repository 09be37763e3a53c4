-- The head that a call is handed is valid. Assumes nothing.
use Rattle.std.proofs.Common.{◌≡◌, ℕ, List, Ok}
use Rattle.codes.specs.declared.letters.MatrixKind.{MatrixKind}
use Rattle.model.proofs.Laying.{header_line_printable}
use Rattle.model.specs.Edits.{head_named}
use Rattle.model.specs.Handed.{header_line}
use Rattle.record_laws.proofs.Validity.{given, headers_are_valid, then_holds}
use Rattle.record_laws.specs.Valid.{ValidHeader}
use Rattle.headings.specs.Headers.{read_edited_header}
use Rattle.headings.specs.declared.headers.Head.{Head}
use Rattle.headings.specs.declared.headers.Header.{Header}

header_handed : (bs line : List ℕ) (h : Header) → header_line bs ≡ Ok line → read_edited_header line ≡ Ok h → ValidHeader h
header_handed bs line h d e = given ValidHeader (read_edited_header line) h e (headers_are_valid line (header_line_printable bs line d)).1

pub head_handed : (bs : List ℕ) (kind : MatrixKind) (head : Head) → head_named bs kind ≡ Ok head → ValidHeader head.header
head_handed bs kind head e =
    let P : Head → Type 0 = λ h. ValidHeader h.header in
    given P (head_named bs kind) head e
    (then_holds P (header_line bs) _ (λ line d. then_holds P (read_edited_header line) _ (λ h f. header_handed bs line h d f)))
