-- Limits (document 01, "Questions put to a call"), each with the question that asks for it.
--   callers            17: sets of counts in a tally; a caller's number is below it
--   room               1: bytes of an answer's buffer, at least
--   file_most          2: bytes of a file
--   lines_most         lines that a file of so many bytes can have behind a header, each of seven bytes at least
--   mate_pairs_most    5: mate pairs of a graph
--   cameras_most       5: cameras of a stock
--   pairs_most         pairs of a stock's pairing, at most: half its cameras
--   plan_pairs_most    7: pairs that a plan's header can tell
--   arcs_most          8: arcs of a graph
--   fits_most          8: fits of a stock
--   steps_most         8: lines of a path
--   class_most         9: the highest class
--   searches_most      15: searches of a budget, enough for a plan of every stock
--   names_most         19: names under which pairings are kept
use Rattle.std.specs.Prelude.{ℕ}

abbrev pub callers : ℕ
callers = 4

abbrev pub room : ℕ
room = 2048

abbrev pub file_most : ℕ
file_most = 60000

abbrev pub lines_most : ℕ
lines_most = 8571

abbrev pub mate_pairs_most : ℕ
mate_pairs_most = 0x80

abbrev pub cameras_most : ℕ
cameras_most = 0x7F

abbrev pub pairs_most : ℕ
pairs_most = 63

abbrev pub plan_pairs_most : ℕ
plan_pairs_most = 255

abbrev pub arcs_most : ℕ
arcs_most = 8192

abbrev pub fits_most : ℕ
fits_most = 3900

abbrev pub steps_most : ℕ
steps_most = 255

abbrev pub class_most : ℕ
class_most = 0x82

abbrev pub searches_most : ℕ
searches_most = 64

abbrev pub names_most : ℕ
names_most = 8
