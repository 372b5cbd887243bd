-- The tables that are lent.
--   labels_of T     what the labels hold
--   queue_of T      what the queue holds
--   tables_of T     what all tables of a search hold
use Rattle.search.specs.Tables.{Labels, labels, Queue, queue, Tables, tables}
use Rattle.search.specs.declared.steps.Labels as lent_labels
use Rattle.search.specs.declared.queue.Queue as lent_queue
use Rattle.search.specs.declared.state.State as lent_state

abbrev pub labels_of : lent_labels.Labels → Labels
labels_of T = labels T.birth.now T.via.now T.base.now

abbrev pub queue_of : lent_queue.Queue → Queue
queue_of T = queue T.reached.slice.now T.reached.len T.taken

abbrev pub tables_of : lent_state.State → Tables
tables_of T = tables (labels_of T.labels) T.mark.now (queue_of T.queue) T.clock
