-- Known graphs and stocks as files (document 01, "Known graphs and stocks"), by computing.
--   known_files       what the questions and the check say of them
--   known_texts       answers byte for byte
--   known_ends        files with either line end
--   known_isolated    cameras without a fit
--   known_answers     a plan and the sheet behind it
--   known_budgets     budgets of searches
--   known_self_arcs   arcs from a node to itself
--   known_callers     question 17, and calls in a row
use mathlib.Core.Path.{refl}
use Rattle.counting.specs.Sums.{sum}
use Rattle.counting.specs.Tests.{all, any, among, none_twice, up_from, keep}
use Rattle.counting.specs.Pairs.{seconds_of}
use Rattle.frames.specs.Frames.{lines_of, ends_whole, hex_from, hex_bytes, later_fit, bodies_fit, pairs_in, numbers_in}
use Rattle.frames.specs.EitherEnd.{returns_from}
use Rattle.skew.specs.Graph.{arcs_of, mates_fit, nodes_along, is_joined, no_mates, end_of, reaches_from, largest_of, entries_into, part_once, part_by, least_of, classes_from}
use Rattle.matching.specs.Stock.{has_pair, none_shared, with_first, all_pairings, most_of, marks_from, pairs_rise, same_pairs}
use Rattle.matching.specs.Budget.{search_one_by_one}
use Rattle.files.specs.StockFile.{mark_lines, plan_lines}
use Rattle.files.specs.CertificateFile.{class_lines, path_lines, names_in_order}
use Rattle.lanes.specs.Tallies.{after_calls}
use Rattle.lanes.specs.Known.{KnownFiles, KnownTexts, KnownEnds, KnownIsolated, KnownAnswers, KnownBudgets, KnownSelfArcs, KnownCallers}

pub known_files : KnownFiles
unfolding all any among none_twice up_from keep nodes_along is_joined no_mates end_of reaches_from largest_of entries_into part_once part_by least_of classes_from has_pair none_shared pairs_rise lines_of ends_whole hex_from hex_bytes later_fit bodies_fit pairs_in arcs_of numbers_in mates_fit class_lines path_lines names_in_order seconds_of
known_files = (refl, refl, refl, refl, refl, refl, refl, refl, refl, refl, refl, refl, refl, refl, refl, refl, refl)

pub known_texts : KnownTexts
unfolding all any among none_twice up_from keep nodes_along is_joined no_mates end_of reaches_from part_once part_by least_of classes_from with_first all_pairings most_of marks_from lines_of hex_from hex_bytes pairs_in arcs_of class_lines mark_lines plan_lines
known_texts = (refl, refl, refl, refl)

pub known_ends : KnownEnds
unfolding all any among none_twice up_from keep nodes_along is_joined no_mates end_of reaches_from largest_of entries_into part_once part_by least_of classes_from has_pair none_shared pairs_rise lines_of ends_whole hex_from hex_bytes later_fit bodies_fit pairs_in arcs_of numbers_in mates_fit class_lines path_lines names_in_order seconds_of returns_from
known_ends = (refl, refl, refl, refl, refl, refl, refl, refl, refl, refl, refl, refl, refl, refl, refl, refl, refl, refl)

pub known_isolated : KnownIsolated
unfolding all any up_from has_pair none_shared with_first all_pairings most_of marks_from pairs_rise same_pairs lines_of ends_whole hex_from hex_bytes later_fit bodies_fit pairs_in mark_lines
known_isolated = (refl, refl, refl, refl, refl, refl)

pub known_answers : KnownAnswers
unfolding all any up_from has_pair none_shared with_first all_pairings most_of marks_from pairs_rise same_pairs lines_of hex_from hex_bytes pairs_in mark_lines plan_lines
known_answers = (refl, refl, refl, refl, refl, refl, refl, refl, refl, refl, refl, refl, refl)

pub known_budgets : KnownBudgets
unfolding all any up_from has_pair none_shared with_first all_pairings most_of pairs_rise same_pairs search_one_by_one lines_of ends_whole hex_from hex_bytes later_fit bodies_fit pairs_in plan_lines
known_budgets = (
  (refl, refl),
  (refl, refl),
  (refl, refl),
  (refl, refl),
  refl,
  refl,
  refl,
  (refl, refl),
  (refl, refl),
  (refl, refl),
  (refl, refl),
  (refl, refl),
  (refl, refl),
  (refl, refl),
  refl,
  refl,
  refl,
  refl,
  refl,
  refl,
)

pub known_self_arcs : KnownSelfArcs
unfolding all up_from lines_of ends_whole hex_from hex_bytes bodies_fit pairs_in arcs_of mates_fit largest_of
known_self_arcs = (refl, refl, refl, refl, refl, refl, refl, refl, refl, refl, refl, refl, refl, refl)

pub known_callers : KnownCallers
unfolding all any among none_twice up_from keep sum nodes_along is_joined no_mates end_of reaches_from largest_of entries_into part_once part_by least_of classes_from has_pair none_shared pairs_rise lines_of ends_whole hex_from hex_bytes later_fit bodies_fit pairs_in arcs_of mates_fit after_calls
known_callers = (refl, refl, refl, refl, refl, refl, refl, refl, refl, refl, refl, refl, refl, refl, refl)
