-- An input has one fault at most, and a script with a capture has none.
use Rattle.std.proofs.Common.{◌≡◌, ◌≢◌, ℕ, List, [], Option, None, Some, refl, ap, sym, subst}
use Rattle.std.specs.Prelude.{Result, Ok, Err, IfOk}
use Rattle.capture_reader.specs.Header.{HasHeader}
use Rattle.flat_list.specs.Script.{Script}
use Rattle.sock_script.specs.declared.parse.Mode.{Mode}
use Rattle.sock_script.specs.Words.{lines_of}
use Rattle.sock_script.specs.Grammar.{IsScript, IsInside, IsFirstOutside, capture_bytes, capture_device, capture_namespace}
use Rattle.sock_script.proofs.Fronts.{none_outside, one_first}
use Rattle.sock_script.proofs.Inside.{one_script}
use Rattle.capture_reader.proofs.Captures.{no_other}
use Rattle.inet_tool.specs.declared.fault.Fault.{Fault}
use Rattle.inet_tool.specs.declared.fault.Fault.TheVariants as faults
use Rattle.inet_tool.specs.Table.{HasBadCapture, HasFault, IsGood, IsReply, Output, fault_text}
use Rattle.inet_tool.specs.declared.reply.Reply.{Reply}

-- a script's lines are in the grammar
pub is_inside : (mode : Mode) (bytes : List ℕ) (script : Script) → IsScript mode bytes script → IsInside mode (lines_of bytes)
is_inside mode bytes script h = (script, h)

module _ (mode : Mode) (bytes : List ℕ) where
  -- lines with one outside are no script's
  no_script : (n : ℕ) (script : Script) → IsFirstOutside mode (lines_of bytes) n → IsScript mode bytes script → ⊥
  no_script n script first is = none_outside mode (lines_of bytes) n first (is_inside mode bytes script is)

  -- one fault at most
  pub one_fault : (f g : Fault) → HasFault mode bytes f → HasFault mode bytes g → f ≡ g
  one_fault (faults.Line m) (faults.Line n) h k = ap faults.Line (one_first mode (lines_of bytes) m n h k)
  one_fault (faults.Line m) faults.Capture h k = absurd (no_script m k.0 h k.1)
  one_fault faults.Capture (faults.Line n) h k = absurd (no_script n h.0 k h.1)
  one_fault faults.Capture faults.Capture h k = refl

  -- a bad capture is none
  not_both : (good : IsGood mode bytes) (bad : HasBadCapture mode bytes) → ⊥
  not_both good bad =
      let same : bad.0 ≡ good.0 = one_script mode bytes bad.0 good.0 bad.1 good.2 in
      let none = subst (λ (s : Script). capture_bytes s.capture bytes ≢ []) same bad.2 in
      let headless = subst (λ (s : Script). HasHeader (capture_bytes s.capture bytes) → ⊥) same bad.3 in
      no_other (capture_device good.0.capture) (capture_namespace good.0.capture) (capture_bytes good.0.capture bytes) good.1 none headless good.3

  -- a good input has no fault
  pub no_fault : (f : Fault) → IsGood mode bytes → HasFault mode bytes f → ⊥
  no_fault (faults.Line n) good h = no_script n good.0 h good.2
  no_fault faults.Capture good h = not_both good h

module _ (mode : Mode) (Out : Output) where
  -- a reply that says what is wrong
  pub bad_reply : {E : Type 0} (bytes : List ℕ) (fault : Fault) (result : Result Reply E) → HasFault mode bytes fault
      → IfOk result (λ reply. reply.text.items ≡ fault_text fault) → IfOk result (λ reply. reply.fault ≡ Some fault)
      → IfOk result (λ reply. IsReply mode Out bytes reply.fault reply.text.items)
  bad_reply bytes fault (Ok reply) bad text is = subst (λ (o : Option Fault). IsReply mode Out bytes o reply.text.items) (sym is) (bad, text)
  bad_reply bytes fault (Err end) bad text is = tt

  -- what holds where a reply says what is wrong: the input has that fault, and the text states it
  pub told_by : (bytes held : List ℕ) (told : Option Fault) (text : List ℕ) (fault : Fault) → held ≡ bytes → told ≡ Some fault
      → IsReply mode Out held told text → HasFault mode bytes fault × (text ≡ fault_text fault)
  told_by bytes held told text fault same is reply =
      subst (λ (b : List ℕ). HasFault mode b fault × (text ≡ fault_text fault)) same (subst (λ (o : Option Fault). IsReply mode Out held o text) is reply)

  -- what holds where a reply says nothing is wrong: its text is what is written for a script
  pub good_by : (bytes held : List ℕ) (told : Option Fault) (text : List ℕ) → held ≡ bytes → told ≡ None → IsReply mode Out held told text → Out bytes text
  good_by bytes held told text same is reply =
      subst (λ (b : List ℕ). Out b text) same (subst (λ (o : Option Fault). IsReply mode Out held o text) is reply)
