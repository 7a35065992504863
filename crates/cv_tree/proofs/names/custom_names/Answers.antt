use Rattle.std.specs.Prelude.{option_map}
use Rattle.std.specs.List.{filter_map}
use Rattle.std.specs.Map.{keys_of}
use Rattle.cv_tree.specs.Names.{keys_in, name_of_command, name_of_key, names_shown}
use Rattle.cv_tree.proofs.Naming.{counted_are}
use Rattle.cv_tree.proofs.names.custom_names.Goals as goal

pub returns : goal.returns
returns c =
    counted_are c.new-names.result.keys c.add_registered.new.names.keys c.add_all_declared.new.names.keys c.add_show.new.names.keys c.add_asked.new.names.keys
    (keys_of c.args.registry.now) (filter_map name_of_key (keys_in c.args.all.now))
    (names_shown (option_map (λ shown. shown.items) c.args.shown.now)) (filter_map name_of_command c.args.commands.now)
    c.new-names.ensures.empty c.in_ok-add_registered.ensures c.in_ok-add_all_declared.ensures c.in_ok-add_show.ensures c.in_ok-add_asked.ensures
