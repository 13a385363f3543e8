-- The table of refusals: the number, the layer and the place of each. Assumes nothing.
use Rattle.std.specs.Prelude.{ℕ, Some, None, Option}
use Rattle.std.specs.Option.{option_map}
use Rattle.refusal.specs.declared.Layer.{Layer}
use Rattle.refusal.specs.declared.Layer.TheVariants.{Expression, Engine, Search, Label}
use Rattle.refusal.specs.declared.Refusal.{Refusal}
use Rattle.refusal.specs.declared.Fault.{Fault}
use Rattle.refusal.specs.declared.Fault.TheVariants.{ExpressionTooLong, NotInGrammar, TooDeep, ReversedRange, EmptySet, TooManyPositions, NoPlainWord, TextTooLong, Finished, NoRoom, BeyondText, LabelTooShort, UnknownEdition, TooManyEntries, TooFewFields, UnknownIdentifier, PartOutside, Memory}

abbrev row : ℕ → Layer → ℕ → Option Refusal
row n l p = Some (record { number = n; layer = l; place = p })

-- want of memory is no refusal of the list
abbrev pub refusal : Fault → Option Refusal
refusal ExpressionTooLong = row 1 Expression 1024
refusal (NotInGrammar p) = row 2 Expression p
refusal (TooDeep p) = row 3 Expression p
refusal (ReversedRange p) = row 4 Expression p
refusal (EmptySet p) = row 5 Expression p
refusal (TooManyPositions p) = row 6 Expression p
refusal NoPlainWord = row 7 Engine 0
refusal TextTooLong = row 8 Search 65535
refusal (Finished p) = row 9 Search p
refusal (NoRoom p matches) = row 10 Search p
refusal (BeyondText p) = row 11 Search p
refusal (LabelTooShort length) = row 12 Label length
refusal UnknownEdition = row 13 Label 0
refusal TooManyEntries = row 13 Label 1
refusal (UnknownIdentifier p) = row 14 Label p
refusal (PartOutside p) = row 15 Label p
refusal TooFewFields = row 16 Label 1
refusal Memory = None

abbrev pub number : Fault → Option ℕ
number f = option_map (λ x. x.number) (refusal f)

abbrev pub layer : Fault → Option Layer
layer f = option_map (λ x. x.layer) (refusal f)

abbrev pub place : Fault → Option ℕ
place f = option_map (λ x. x.place) (refusal f)
