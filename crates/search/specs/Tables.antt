-- What a search keeps in its tables, as values.
--   Labels, labels bs vs ss     the birth of each node, 0 where it is not reached; the arc of each node's label; the base of each mate pair
--   is_reached L v              node v is reached
--   Queue, queue vs m t         a table, the number of nodes that stand in its first places, and the number of those that are taken
--   Tables, tables L ms q k     labels, the marks of a bud step, the reached nodes in order, and the clock
use Rattle.std.specs.Prelude.{Bool, List, ℕ, ltb, get_or}

pub record Labels : Type 0 where
  pub births : List ℕ
  pub vias : List ℕ
  pub bases : List ℕ

abbrev pub labels : (births vias bases : List ℕ) → Labels
labels bs vs ss = record { births = bs; vias = vs; bases = ss }

abbrev pub is_reached : Labels → (node : ℕ) → Bool
is_reached L v = ltb 0 (get_or L.births v 0)

pub record Queue : Type 0 where
  pub nodes : List ℕ
  pub count : ℕ
  pub taken : ℕ

abbrev pub queue : (nodes : List ℕ) (count taken : ℕ) → Queue
queue vs m t = record { nodes = vs; count = m; taken = t }

pub record Tables : Type 0 where
  pub labels : Labels
  pub marks : List Bool
  pub queue : Queue
  pub clock : ℕ

abbrev pub tables : Labels → (marks : List Bool) → Queue → (clock : ℕ) → Tables
tables L ms q k = record { labels = L; marks = ms; queue = q; clock = k }
