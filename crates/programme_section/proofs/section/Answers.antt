-- `programme_section::section` meets its promise by how the section reads.
use Rattle.programme_section.proofs.Walk.{section-refused, section-items}
use Rattle.programme_section.proofs.section.Goals as goal

pub returns-in-Err-clause-wrote : goal.returns-in-Err-clause-wrote
returns-in-Err-clause-wrote c = (section-refused _ _ _ _ c.read.ensures c.in-Err.is (rw c.from.ensures at c.refused_at-end.ensures)).0

pub returns-in-Err-clause-whole_value : goal.returns-in-Err-clause-whole_value
returns-in-Err-clause-whole_value c = (section-refused _ _ _ _ c.read.ensures c.in-Err.is (rw c.from.ensures at c.refused_at-end.ensures)).1

pub returns-in-Ok-clause-wrote : goal.returns-in-Ok-clause-wrote
returns-in-Ok-clause-wrote c = (section-items _ _ _ _ c.read.ensures c.in-Ok.is c.programme_line-told.ensures c.items.ensures.wrote c.items.ensures.whole_value).0

pub returns-in-Ok-clause-whole_value : goal.returns-in-Ok-clause-whole_value
returns-in-Ok-clause-whole_value c = (section-items _ _ _ _ c.read.ensures c.in-Ok.is c.programme_line-told.ensures c.items.ensures.wrote c.items.ensures.whole_value).1
