-- Lines are read one way.
use Rattle.std.proofs.Common.{◌≡◌, ℕ, ◌∙◌, List, [], ◌∷◌, ◌++◌, Option, Some, None, inl, inr, sym, refl, subst}
use Rattle.flat_list.specs.declared.script.CapturePlace.{CapturePlace}
use Rattle.sock_script.specs.declared.parse.Mode.{Mode}
use Rattle.sock_script.specs.declared.line.Line.{Line}
use Rattle.sock_script.specs.declared.line.Line.TheVariants as lines
use Rattle.sock_script.specs.Words.{words_of}
use Rattle.sock_script.specs.Reading.{Draft, Follows, ReadsLine, Reads, past}
use Rattle.sock_script.proofs.LineCases.{IsRead, line_cases, keeps}
use Rattle.sock_script.proofs.Determined.{one_form}

-- nothing is something
none_some : {A : Type 0} {o : Option A} {x : A} → o ≡ None → o ≡ Some x → ⊥
none_some e f = let both : None ≡ Some _ = sym e ∙ f in cc

module _ (mode : Mode) where
  one_follower : (old : Draft) (l : Line) (a b : Draft) → Follows mode old l a → Follows mode old l b → a ≡ b
  one_follower old lines.PassedOver a b h k = h ∙ sym k
  one_follower old (lines.Table shape) a b h k = h.1 ∙ sym k.1
  one_follower old (lines.Range range) a b h k = h.1 ∙ sym k.1
  one_follower old (lines.Reserved reserved) a b h k = h.1 ∙ sym k.1
  one_follower old (lines.Seed seed) a b h k = h.1 ∙ sym k.1
  one_follower old (lines.Offset offset) a b h k = h.1 ∙ sym k.1
  one_follower old (lines.TimeWaitReuse reuse) a b h k = h.1 ∙ sym k.1
  one_follower old (lines.Section n) a b h k = h.1 ∙ sym k.1
  one_follower old (lines.Capture dev net) a b h k = h ∙ sym k
  one_follower old (lines.Command c) a b h k = h.1 ∙ sym k.1

  -- a line that is read makes one thing
  one_read : (old : Draft) (text : List ℕ) (a b : Draft) → IsRead mode old text a → IsRead mode old text b → a ≡ b
  one_read old text a b h k =
      let same : h.line ≡ k.line = one_form (words_of text) h.line k.line h.form k.form in
      one_follower (past old text) k.line a b (subst (λ l. Follows mode (past old text) l a) same h.follows) k.follows

  one_line : (old : Draft) (text : List ℕ) (a b : Draft) → ReadsLine mode old text a → ReadsLine mode old text b → a ≡ b
  one_line old text a b h k =
      elim (line_cases mode old text a h) [
        | inl r ↦ elim (line_cases mode old text b k) [
          | inl s ↦ one_read old text a b r s
          | inr kept ↦ absurd (none_some r.none kept.1)
        ]
        | inr kept ↦ elim (line_cases mode old text b k) [
          | inl s ↦ absurd (none_some s.none kept.1)
          | inr kept' ↦ kept.2 ∙ sym kept'.2
        ]
      ]

  -- the same lines make the same of the same
  pub one_reading : (old : Draft) (texts : List (List ℕ)) (a b : Draft) → Reads mode old texts a → Reads mode old texts b → a ≡ b
  one_reading old [] a b h k = h ∙ sym k
  one_reading old (text ∷ texts) a b h k =
      let same : h.0 ≡ k.0 = one_line old text h.0 k.0 h.1 k.1 in
      one_reading k.0 texts a b (subst (λ s. Reads mode s texts a) same h.2) k.2

  -- one more line
  pub Reads-push : (old mid new : Draft) (texts : List (List ℕ)) (text : List ℕ) → Reads mode old texts mid → ReadsLine mode mid text new → Reads mode old (texts ++ text ∷ []) new
  Reads-push old mid new [] text h k = (new, subst (λ s. ReadsLine mode s text new) h k, refl)
  Reads-push old mid new (t ∷ texts) text h k = (h.0, h.1, Reads-push h.0 mid new texts text h.2 k)

  -- what was read before the last lines
  pub Reads-split : (old new : Draft) (texts more : List (List ℕ)) → Reads mode old (texts ++ more) new → (mid : Draft) × Reads mode old texts mid × Reads mode mid more new
  Reads-split old new [] more h = (old, refl, h)
  Reads-split old new (t ∷ texts) more h =
      let rest = Reads-split h.0 new texts more h.2 in
      (rest.0, (h.0, h.1, rest.1), rest.2)

  -- where the next line can't be read, the lines with it can't
  pub no_reading : (old mid new : Draft) (texts : List (List ℕ)) (text : List ℕ) → Reads mode old texts mid → ((next : Draft) → ReadsLine mode mid text next → ⊥) → Reads mode old (texts ++ text ∷ []) new → ⊥
  no_reading old mid new texts text h none k =
      let last = Reads-split old new texts (text ∷ []) k in
      none last.2.0 (subst (λ s. ReadsLine mode s text last.2.0) (one_reading old texts last.0 mid last.1 h) last.2.1)

  -- once a capture has begun, all lines that follow leave the draft
  pub Reads-kept : (old : Draft) (texts : List (List ℕ)) (place : CapturePlace) → old.capture ≡ Some place → Reads mode old texts old
  Reads-kept old [] place e = refl
  Reads-kept old (text ∷ texts) place e = (old, keeps mode old text place e, Reads-kept old texts place e)

  -- the lines after those that were read
  pub Reads-append : (old mid new : Draft) (texts more : List (List ℕ)) → Reads mode old texts mid → Reads mode mid more new → Reads mode old (texts ++ more) new
  Reads-append old mid new [] more h k = subst (λ d. Reads mode d more new) h k
  Reads-append old mid new (t ∷ texts) more h k = (h.0, h.1, Reads-append h.0 mid new texts more h.2 k)
