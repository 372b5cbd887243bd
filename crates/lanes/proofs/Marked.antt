-- G1 to G5 and S1 to S7 (document 01, "Known graphs and stocks"): the definitions give these answers, by computing.
--   marked    the table
use mathlib.Core.Path.{refl}
use Rattle.counting.specs.Tests.{all, any, among, none_twice, up_from, keep}
use Rattle.skew.specs.Graph.{nodes_along, is_joined, no_mates, end_of, reaches_from, largest_of, entries_into, part_once, part_by, least_of, classes_from}
use Rattle.matching.specs.Stock.{has_pair, none_shared, with_first, all_pairings, most_of, marks_from, pairs_rise, same_pairs}
use Rattle.lanes.specs.Promise.{Marked}

pub marked : Marked
unfolding all any among none_twice up_from keep nodes_along is_joined no_mates end_of reaches_from largest_of entries_into part_once part_by least_of classes_from has_pair none_shared with_first all_pairings most_of marks_from pairs_rise same_pairs
marked =
    ((refl, refl, refl), refl, refl, (refl, refl, refl), (refl, refl, refl), refl, refl, (refl, refl), (refl, refl), (refl, refl), (refl, refl), refl, (refl, refl), (refl, refl))
