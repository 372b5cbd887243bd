-- Refusals by their numbers, and what a function that may refuse returns.
--   refusal_number e     the number of the question answered no
--   refusal_in r         that number where r is a refusal, 0 where it is not
--   value_or z r         what is returned beside no refusal, z beside one
use Rattle.std.specs.Prelude.{Result, Ok, Err, ℕ}
use Rattle.formats.specs.declared.refusals.Refusal.{Refusal}
use Rattle.formats.specs.declared.refusals.Refusal.TheVariants as refusal

abbrev pub refusal_number : Refusal → ℕ
refusal_number refusal.Room = 1
refusal_number refusal.Length = 2
refusal_number refusal.Lines = 3
refusal_number refusal.Header = 4
refusal_number refusal.Numbers = 5
refusal_number refusal.Body = 6
refusal_number refusal.Count = 7
refusal_number refusal.Size = 8
refusal_number refusal.Names = 9
refusal_number refusal.Mates = 10
refusal_number refusal.FitsRise = 11
refusal_number refusal.PairsRise = 12
refusal_number refusal.PairsFit = 13
refusal_number refusal.Shared = 14
refusal_number refusal.Searches = 15
refusal_number refusal.SelfArc = 16
refusal_number refusal.Caller = 17
refusal_number refusal.NotKept = 18
refusal_number refusal.Full = 19

abbrev pub refusal_in : {A : Type 0} → Result A Refusal → ℕ
refusal_in (Ok x) = 0
refusal_in (Err e) = refusal_number e

abbrev pub value_or : {A : Type 0} → A → Result A Refusal → A
value_or z (Ok x) = x
value_or z (Err e) = z
