-- Whole numbers and tenths, as counts, epochs, angles and heights are made of them.
use Rattle.std.specs.Prelude.{ℕ, cond, ◌&&◌, List, length, Some, None, Option, ◌==◌, nat_le}
use Rattle.decimals.specs.Scan.{digits_from, past}
use Rattle.decimals.specs.Number.{is_empty, digits_of_text}

-- one to nine digits, and nothing else
abbrev pub numeral : List ℕ → Option ℕ
numeral t = cond (nat_le 1 (length t) && (nat_le (length t) 9 && is_empty (past t))) (Some (digits_from 0 t)) None

-- one digit or more, a point and one digit, and nothing else, in at most nine bytes: as tenths
abbrev pub tenths : List ℕ → Option ℕ
tenths t = cond (nat_le (length t) 9 && (nat_le 2 (digits_of_text t).count && ((digits_of_text t).places == 1 && is_empty (digits_of_text t).rest))) (Some (digits_of_text t).value) None
