-- The commands of a worksheet: how a line spells each, and how many lines it takes as arguments.
use Rattle.std.specs.Prelude.{◌≡◌, ℕ, cond, List, [], ◌∷◌, ◌++◌, Some, None, codes, Option}
use Rattle.codes.specs.Codes.{matrix_kind_text}
use Rattle.codes.specs.Order.{same_text}
use Rattle.codes.specs.declared.letters.MatrixKind.TheVariants.{Correlation, Covariance, Information}
use Rattle.model.specs.declared.counts.Sort.{Sort}
use Rattle.model.specs.declared.counts.Sort.TheVariants.{Site, Span, Estimate, Apriori}
use Rattle.worksheets.specs.declared.commands.Command.{Command}
use Rattle.worksheets.specs.declared.commands.Command.TheVariants.{SetHead, Put, Drop, SetCell}

abbrev pub sort_word : Sort → List ℕ
sort_word Site = codes "site"
sort_word Span = codes "span"
sort_word Estimate = codes "estimate"
sort_word Apriori = codes "apriori"

abbrev pub spelled : Command → List ℕ
spelled (SetHead kind) = codes "set head " ++ matrix_kind_text kind
spelled (Put sort) = codes "put " ++ sort_word sort
spelled (Drop sort) = codes "drop " ++ sort_word sort
spelled SetCell = codes "set cell"

-- how many lines are its arguments
abbrev pub takes : Command → ℕ
takes (SetHead kind) = 1
takes (Put sort) = 1
takes (Drop sort) = 1
takes SetCell = 3

abbrev pub commands : List Command
commands =
    SetHead Correlation ∷ SetHead Covariance ∷ SetHead Information
    ∷ Put Site ∷ Put Span ∷ Put Estimate ∷ Put Apriori
    ∷ Drop Site ∷ Drop Span ∷ Drop Estimate ∷ Drop Apriori
    ∷ SetCell ∷ []

-- the one of these commands that the bytes spell
abbrev pub spelled_by : List ℕ → List Command → Option Command
spelled_by bs [] = None
spelled_by bs (c ∷ cs) = cond (same_text bs (spelled c)) (Some c) (spelled_by bs cs)

abbrev pub read_command : List ℕ → Option Command
read_command bs = spelled_by bs commands

-- a line is read as a command exactly where it spells it
abbrev pub Spells : List ℕ → Option Command → Type 0
Spells bs r = (c : Command) → (r ≡ Some c → bs ≡ spelled c) × (bs ≡ spelled c → r ≡ Some c)
