-- The command line, as clap sees it.
use Rattle.std.specs.Prelude.{◌≡◌, true, List, [], ◌∷◌, Some, map, codes}
use Rattle.std.specs.Borrow.{Bor}
use Rattle.clap.specs.Words.{App, Rule, Text, new_rule, with_rule}
use Rattle.clap.specs.Simple.{new_shape}
use Rattle.clap.specs.declared.builder.action.ArgAction.TheVariants.{Set}
use Rattle.clap.specs.declared.builder.value_parser.ValueParser.TheVariants.{Names, Unsigned}

-- a list of names, as clap is lent it
abbrev pub Choices : Type 0
Choices = Bor (List (Bor Text))

-- the names of the jobs
abbrev pub job_names : List Text
job_names = codes "compute" ∷ codes "reify" ∷ codes "gen" ∷ []

-- the list is that of the names of the jobs
abbrev pub HasJobs : Choices → Type 0
HasJobs names = map (λ name. name.now) names.now ≡ job_names

-- a word that is one of the names
abbrev pub job_rule : Choices → Rule
job_rule names = record (new_rule (codes "job")) {
  action = Some Set;
  required = true;
  parser = Some (Names names);
}

-- `--limit N`
abbrev pub limit_rule : Rule
limit_rule = record (new_rule (codes "limit")) {
  long = Some (codes "limit");
  action = Some Set;
  parser = Some (Unsigned 1 32768);
  defaults = codes "16384" ∷ [];
}

-- `--size N`
abbrev pub size_rule : Rule
size_rule = record (new_rule (codes "size")) {
  long = Some (codes "size");
  action = Some Set;
  parser = Some (Unsigned 1 4096);
  defaults = codes "100" ∷ [];
}

-- the command without its arguments; its words come without the program's name
abbrev pub bare : App
bare = record {
  top = record (new_shape (codes "cssvars")) {
    no_binary_name = true;
    disable_help_flag = true;
    disable_version_flag = true;
  };
  subs = [];
}

abbrev pub command_of : Choices → App
command_of names = with_rule (with_rule (with_rule bare (job_rule names)) limit_rule) size_rule
