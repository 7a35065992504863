use Rattle.cv_run.proofs.status.Status.put_line.Goals as goal

pub returns-in-ReadFault-clause-taken : goal.returns-in-ReadFault-clause-taken
returns-in-ReadFault-clause-taken g c = rw c.in-ReadFault.is c.put_text-in-ReadFault.ensures.taken

pub returns-in-TooLarge-clause-taken : goal.returns-in-TooLarge-clause-taken
returns-in-TooLarge-clause-taken g c = rw (c.in-TooLarge.is, ← c.part_text.ensures, ← c.as_bytes.ensures.value) c.put_around.ensures.taken

pub returns-in-NoMemory-clause-taken : goal.returns-in-NoMemory-clause-taken
returns-in-NoMemory-clause-taken g c = rw c.in-NoMemory.is c.put_text-in-NoMemory.ensures.taken
