-- The number of each fault, as docs/REFUSALS.md lists them.
use Rattle.std.specs.Prelude.{ℕ}
use Rattle.refusals.specs.declared.Fault.{Fault}
use Rattle.refusals.specs.declared.Fault.TheVariants.{TableLengths, RegisterInUse, SourceTooLong, UnfitLine, UnknownLineKind, NoHeaderLine, BrokenFrame, WrongTitle, TitleTwice, BlockMissing, WrongText, WrongEpoch, WrongNumber, NumberOutOfRange, WrongType, OutOfStep, KeyTwice, NeedMissing, TableFull, WrongCell, NoHead, RecordAbsent, StillNeeded, MediumTooSmall}

abbrev pub number_of : Fault → ℕ
number_of TableLengths = 1
number_of RegisterInUse = 2
number_of SourceTooLong = 3
number_of UnfitLine = 4
number_of UnknownLineKind = 5
number_of NoHeaderLine = 6
number_of BrokenFrame = 7
number_of WrongTitle = 8
number_of TitleTwice = 9
number_of BlockMissing = 10
number_of WrongText = 11
number_of WrongEpoch = 12
number_of WrongNumber = 13
number_of NumberOutOfRange = 14
number_of WrongType = 15
number_of OutOfStep = 16
number_of KeyTwice = 17
number_of NeedMissing = 18
number_of TableFull = 19
number_of WrongCell = 20
number_of NoHead = 21
number_of RecordAbsent = 22
number_of StillNeeded = 23
number_of MediumTooSmall = 24
