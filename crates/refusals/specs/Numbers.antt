-- The number and the layer of each condition by which a call is refused. Assumes nothing.
use Rattle.std.specs.Prelude.{ℕ}
use Rattle.refusals.specs.declared.fault.Fault.{Fault}
use Rattle.refusals.specs.declared.fault.Fault.TheVariants.{SheetTooLong, LineForm, NameLength, LetterOrColumn, Direction, SameHalts, HaltLine, TooManyNames, EndDirection, StepTwice, StepMissing, LettersDiffer, NoRows, TooFewPlaces, TitleTooLong, DamagedTable, PairMisfit, DistanceRange, ListingTooLong}
use Rattle.refusals.specs.declared.fault.Layer.{Layer}
use Rattle.refusals.specs.declared.fault.Layer.TheVariants.{Lines, Words, Rule, Engine}

abbrev pub told : Fault → ℕ × Layer
told SheetTooLong = (1, Lines)
told LineForm = (2, Lines)
told NameLength = (3, Words)
told LetterOrColumn = (4, Words)
told Direction = (5, Words)
told SameHalts = (6, Rule)
told HaltLine = (7, Rule)
told TooManyNames = (8, Rule)
told EndDirection = (9, Rule)
told StepTwice = (10, Rule)
told StepMissing = (11, Rule)
told LettersDiffer = (12, Engine)
told NoRows = (13, Engine)
told TooFewPlaces = (14, Engine)
told TitleTooLong = (15, Engine)
told DamagedTable = (16, Engine)
told PairMisfit = (17, Engine)
told DistanceRange = (18, Engine)
told ListingTooLong = (19, Engine)

abbrev pub number_of : Fault → ℕ
number_of f = (told f).0

abbrev pub layer_of : Fault → Layer
layer_of f = (told f).1

abbrev pub layer_number : Layer → ℕ
layer_number Lines = 1
layer_number Words = 2
layer_number Rule = 3
layer_number Engine = 4
