-- Throwing out all clients that stand in the way, one after another.
use Rattle.std.proofs.Common.{◌≡◌, ℕ, ◌+◌, ◌<◌, ◌≤◌, Bool, true, false, not, ◌&&◌, eqb, ltb, List, [], ◌∷◌, ◌++◌, length, pos, None, sym, refl, ap, ◌∙◌, arith}
use Rattle.std.proofs.lemmas.Bool.{cond-false, and_left, and_right, le-ltb}
use Rattle.std.proofs.lemmas.List.{length-append}
use Rattle.ranks.specs.declared.Client.{Client}
use Rattle.rules.specs.Locking.{conflicts, lock_conflicts, leave}
use Rattle.rules.specs.declared.ClientState.{ClientState}
use Rattle.rules.specs.declared.ClientState.TheVariants.{ThrownOut}
use Rattle.inner.specs.declared.whole.Inner.{Inner}
use Rattle.inner.specs.Slots.{lock_in}
use Rattle.inner.specs.Whole.{client_of, cell_of}
use Rattle.book.specs.Sound.{Sound}
use Rattle.book.specs.Model.{model, Becomes}
use Rattle.book.specs.Requests.{blocks}
use Rattle.book.specs.declared.requests.Request.{Request}
use Rattle.book.proofs.ReadLaws.{past_clients}
use Rattle.book.proofs.LeaveLaws.{leave_more, leave_past}

-- A client stands in the way as before, while others below it have left.
blocks_kept : (n before : Inner) (those : ℕ → Bool) (after : ClientState) (r : Request) (i : ℕ) → Becomes before n (leave (λ d. ltb d i && those d) after) → blocks n r i ≡ blocks before r i
blocks_kept n before those after r i same =
    ap (λ s. conflicts s r.client.0 r.kind r.element.0 i) (same (record { numbers = []; lowest = pos 0; highest = pos 0 }))
    ∙ ap (λ o. not (eqb i r.client.0) && lock_conflicts (cell_of before r.element.0).marked r.kind o) (cond-false (ltb i i && those i) None (lock_in (client_of before i).slots r.element.0) (and_left (ltb i i) (those i) (le-ltb i i (omega arith))))

-- A number that is no client stands in nobody's way.
pub blocks_none : (n : Inner) → Sound n → (r : Request) (d : ℕ) → 16 ≤ d → blocks n r d ≡ false
blocks_none n sound r d l =
    ap (λ x. not (eqb d r.client.0) && lock_conflicts (cell_of n r.element.0).marked r.kind (lock_in x.slots r.element.0)) (sym (past_clients n sound d l))
    ∙ and_right (not (eqb d r.client.0)) false refl

-- One turn, after some clients: the next one stood in the way and has left, or it did not.
module _ (before now : Inner) (r : Request) (seen : List Client) (client : Client) (next : (length seen < 16) × (client.0 ≡ length seen))
    (inv : Becomes before now (leave (λ d. ltb d (length seen) && blocks before r d) ThrownOut)) where
  stood : (b : Bool) → blocks now r client.0 ≡ b → blocks before r (length seen) ≡ b
  stood b h = sym (blocks_kept now before (λ d. blocks before r d) ThrownOut r (length seen) inv) ∙ ap (blocks now r) (sym next.1) ∙ h

  longer : (new : Inner) → Becomes before new (leave (λ d. ltb d (length seen + 1) && blocks before r d) ThrownOut) →
      Becomes before new (leave (λ d. ltb d (length (seen ++ client ∷ [])) && blocks before r d) ThrownOut)
  longer new h m = h m ∙ ap (λ n. leave (λ d. ltb d n && blocks before r d) ThrownOut (model m before)) (sym (length-append seen (client ∷ [])))

  pub thrown_more : (new : Inner) → blocks now r client.0 ≡ true → Becomes now new (leave (λ d. eqb d client.0) ThrownOut) →
      Becomes before new (leave (λ d. ltb d (length (seen ++ client ∷ [])) && blocks before r d) ThrownOut)
  thrown_more new t gone =
      longer new (λ m. gone m ∙ ap (λ i. leave (λ d. eqb d i) ThrownOut (model m now)) next.1 ∙ ap (leave (λ d. eqb d (length seen)) ThrownOut) (inv m)
      ∙ leave_more (λ d. blocks before r d) ThrownOut (model m before) (length seen) next.0 (stood true t))

  pub thrown_past : blocks now r client.0 ≡ false → Becomes before now (leave (λ d. ltb d (length (seen ++ client ∷ [])) && blocks before r d) ThrownOut)
  thrown_past t = longer now (λ m. inv m ∙ leave_past (λ d. blocks before r d) ThrownOut (model m before) (length seen) (stood false t))
