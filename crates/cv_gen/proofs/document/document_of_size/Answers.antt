use Rattle.std.proofs.Common.{rules, subst, sym}
use Rattle.cv_doc.specs.Kept.{IsSound, TextsAreWithin}
use Rattle.cv_gen.proofs.Kept.{gen_is_short, gen_is_sound}
use Rattle.cv_gen.proofs.document.document_of_size.Goals as goal

pub returns-clause-exact : goal.returns-clause-exact
returns-clause-exact c = search rules

pub returns-clause-sound : goal.returns-clause-sound
returns-clause-sound c = subst IsSound (sym (returns-clause-exact c)) (gen_is_sound c.args.size c.requires.least c.requires.most)

pub returns-clause-short : goal.returns-clause-short
returns-clause-short c = subst (TextsAreWithin 16777216) (sym (returns-clause-exact c)) (gen_is_short c.args.size)
