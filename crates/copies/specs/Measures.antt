-- What is measured before a fair copy is written.
use Rattle.std.specs.Prelude.{ℕ, Bool, cond, ◌&&◌, length, Some, None, Option, nat_le}
use Rattle.copies.specs.Lengths.{copy_length}
use Rattle.copies.specs.declared.handed.Records.{Records}
use Rattle.model.specs.Solutions.{Solution}
use Rattle.headings.specs.declared.headers.Head.{Head}

-- the solution of a head, or of none, and these records
abbrev pub solution_by : Option Head → Records → Solution
solution_by h r = record {
  head = h;
  sites = r.sites.now;
  spans = r.spans.now;
  estimates = r.estimates.now;
  aprioris = r.aprioris.now;
  cells = r.cells.now;
}

abbrev pub solution_of : Head → Records → Solution
solution_of h r = solution_by (Some h) r

-- none of the lists has more than a thousand million places
abbrev pub countable : Solution → Bool
countable s =
    nat_le (length s.sites) 1000000000 && (nat_le (length s.spans) 1000000000 && (nat_le (length s.estimates) 1000000000
    && (nat_le (length s.aprioris) 1000000000 && nat_le (length s.cells) 1000000000)))

-- the length of the fair copy; none where there are too many records to count
abbrev pub measured : Solution → Option ℕ
measured s = cond (countable s) (Some (copy_length s)) None
