-- How a call of a property map that is refused is answered.
use Rattle.std.proofs.Common.{◌≡◌, ◌≢◌, ℕ, refl, sym, subst}
use Rattle.std.specs.Prelude.{Result, Err, IfOk}
use Rattle.cv_props.specs.Winners.{Declarations}
use Rattle.cv_map.specs.Calls.{IsRefused}
use Rattle.cv_map.specs.declared.error.MapErr.{MapErr}
use Rattle.cv_map.specs.declared.error.MapErr.TheVariants.{NoProperty, BadValue, NotList, Memory}
use Rattle.cv_session.specs.declared.answer.Answer.{Answer}
use Rattle.cv_session.specs.declared.scene.Scene.{Scene}
use Rattle.cv_session.specs.Asking.{declare_or_refuse, text}
use Rattle.cv_session.specs.Scenes.{IsAnswer}
use Rattle.cv_session.specs.Texts.{refusal_text}

-- a call that is refused for a reason that has a text
refused_call : (call : Result Declarations MapErr) (error : MapErr) → IsRefused call error → error ≢ Memory → call ≡ Err error
refused_call call NoProperty is known = is
refused_call call BadValue is known = is
refused_call call NotList is known = is
refused_call call Memory is known = absurd (known refl)

-- the answer to such a call
pub refused_answer : (scene : Scene) (at : ℕ) (error : MapErr) (answer : Answer) (call : Result Declarations MapErr) → error ≢ Memory → IsAnswer scene (text (refusal_text error)) answer
    → IsRefused call error → IsAnswer scene (declare_or_refuse at call) answer
refused_answer scene at error answer call known told refused =
    subst (λ (c : Result Declarations MapErr). IsAnswer scene (declare_or_refuse at c) answer) (sym (refused_call call error refused known)) told
