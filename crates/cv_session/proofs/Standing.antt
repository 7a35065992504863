-- A scene stays sound where an element has other declarations, and what is computed by them is put in place.
use Rattle.std.proofs.Common.{◌≡◌, ℕ, ◌≤◌, All, List, length, refl, sym, ◌∙◌, ap, subst}
use Rattle.std.specs.Prelude.{slice_set, take, drop, ◌++◌}
use Rattle.std.proofs.Math.Seq.{take-append_seam}
use Rattle.std.proofs.lemmas.List.{length-set}
use Rattle.std.proofs.lemmas.List.Elements.{All-set}
use Rattle.cv_doc.specs.declared.elements.Elem.{Elem}
use Rattle.cv_valuation.specs.declared.computed.Computed.{Computed}
use Rattle.cv_valuation.specs.declared.key.Key.{Key}
use Rattle.cv_props.specs.Winners.{Declarations}
use Rattle.cv_tree.specs.Contents.{AreFew}
use Rattle.cv_tree.specs.Tree.{AllStand, IsTree}
use Rattle.cv_update.specs.Names.{IsNamed}
use Rattle.cv_update.specs.Renewed.{with_fresh}
use Rattle.cv_update.specs.declared.names.Named.{Named}
use Rattle.cv_walk.specs.Extents.{AreExtents}
use Rattle.cv_walk.specs.declared.extent.Extents.{Extents}
use Rattle.cv_session.specs.declared.answer.Altered.{Altered}
use Rattle.cv_session.specs.declared.scene.Scene.{Scene}
use Rattle.cv_session.specs.Fold.{AreComputedBy, Setting, tree_with}
use Rattle.cv_session.specs.Scenes.{AreAmong, IsAltered, IsSound, keys_in, setting_in}

-- what is put in place of what
pub record IsPut (old : Scene) (at : ℕ) (altered : Altered) (new : Scene) : Type 0 where
  pub setting : setting_in new ≡ setting_in old
  pub elements : new.elements.items ≡ old.elements.items
  pub extents : new.extents ≡ old.extents
  pub names : new.names.items ≡ old.names.items
  pub maps : new.maps.items ≡ slice_set old.maps.items at altered.map
  pub all : new.all.items ≡ with_fresh old.all.items altered.fresh

pub put_sound : (old new : Scene) (at : ℕ) (altered : Altered) → IsSound old → IsAltered old at altered.map altered → IsPut old at altered new → IsSound new
put_sound old new at altered sound is put =
    let tree : IsTree (tree_with (setting_in old) (slice_set old.maps.items at altered.map)) = record {
      earlier = sound.tree.earlier;
      declared = length-set old.maps.items at altered.map ∙ sound.tree.declared;
      entries = sound.tree.entries;
    } in
    let keys : keys_in old ≡ keys_in new = ap (λ (s : Setting). s.keys) (sym put.setting) in
    record {
      least = subst (λ (s : Setting). 1 ≤ s.limit) (sym put.setting) sound.least;
      most = subst (λ (s : Setting). s.limit ≤ 32768) (sym put.setting) sound.most;
      few_elements = subst (λ (l : List Elem). length l ≤ 16384) (sym put.elements) sound.few_elements;
      extents = subst (λ (l : List Elem). AreExtents l new.extents) (sym put.elements) (subst (λ (e : Extents). AreExtents old.elements.items e) (sym put.extents) sound.extents);
      tree = subst (λ (s : Setting). IsTree (tree_with s new.maps.items)) (sym put.setting) (subst (λ (d : List Declarations). IsTree (tree_with (setting_in old) d)) (sym put.maps) tree);
      computed = subst (λ (s : Setting). AreComputedBy s new.maps.items new.all.items) (sym put.setting)
          (subst (λ (d : List Declarations). AreComputedBy (setting_in old) d new.all.items) (sym put.maps)
          (subst (λ (c : List Computed). AreComputedBy (setting_in old) (slice_set old.maps.items at altered.map) c) (sym put.all) is.computed));
      stand = subst (λ (s : Setting). AllStand s.registered new.all.items) (sym put.setting) (subst (λ (c : List Computed). AllStand old.registry c) (sym put.all) is.stand);
      named = subst (λ (l : List Named). All IsNamed l) (sym put.names) sound.named;
      few_names = subst (λ (l : List Named). length l ≤ 2083) (sym put.names) sound.few_names;
      few = subst (λ (d : List Declarations). All AreFew d) (sym put.maps) (All-set AreFew old.maps.items at altered.map is.few sound.few);
      among = subst (λ (d : List Declarations). All (AreAmong (keys_in new)) d) (sym put.maps)
          (subst (λ (k : List Key). All (AreAmong k) (slice_set old.maps.items at altered.map)) keys (All-set (AreAmong (keys_in old)) old.maps.items at altered.map is.among sound.among));
    }

pub put_back : {A : Type 0} (n : ℕ) (xs ys zs : List A) → length xs ≡ n → xs ≡ zs → take n (xs ++ drop (length xs) ys) ≡ zs
put_back n xs ys zs same is = ap (λ k. take k (xs ++ drop (length xs) ys)) (sym same) ∙ take-append_seam xs (drop (length xs) ys) ∙ is
