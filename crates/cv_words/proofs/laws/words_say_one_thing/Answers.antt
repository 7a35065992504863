use Rattle.cv_words.proofs.Said.{never_both, refused_or_read, refused_where_at_fault, refused_where_not_taken, words_single}
use Rattle.cv_words.proofs.laws.words_say_one_thing.Goals as goal

pub returns : goal.returns
returns c = record {
  single = λ words one other first second. words_single words one other first second;
  refused_or_read = refused_or_read;
  never_both = never_both;
  refused_where_not_taken = refused_where_not_taken;
  refused_where_at_fault = refused_where_at_fault;
}
