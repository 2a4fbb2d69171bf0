use Rattle.std.proofs.Common.{◌≡◌, ◌∙◌, ◌+◌, ◌++◌, ◌∷◌, ℕ, [], Bool, false, length, List, Option, Some, None, arith, inl, inr, refl, subst, sym, take}
use Rattle.std.specs.Prelude.{IfSome}
use Rattle.world.specs.Input.{IsFirst}
use Rattle.world.specs.Worlds.{Access, WasAsked, WorldView, opening}
use Rattle.impose_cli.proofs.fronts.front_of.Goals as goal

-- what is answered is so, if it is known
is_none : (known : Option Bool) (is : Bool) → IfSome known (λ b. is ≡ b) → is ≡ false → IfSome known (λ b. b ≡ false)
is_none None is same e = same
is_none (Some b) is same e = sym same ∙ e

-- closing asks for nothing
asked_still : (a : Access) (old opened closed : WorldView) → closed.asked ≡ opened.asked → WasAsked a old opened → WasAsked a old closed
asked_still a old opened closed same h =
    subst (λ asked. IfSome asked (λ all. (before : List Access) × (old.asked ≡ Some before) × (all ≡ before ++ a ∷ []))) (sym same) h

kept : (old opened closed failed : ℕ) → opened ≡ old → closed ≡ opened + failed → failed ≡ 0 → closed ≡ old
kept old opened closed failed same sum is = omega (arith, same, sum, is)

counted : (old opened closed failed : ℕ) (n : ℕ) → opened ≡ old → closed ≡ opened + failed → failed ≡ n → closed ≡ old + n
counted old opened closed failed n same sum is = omega (arith, same, sum, is)

pub returns-then-not-is_file-clause-looks : goal.returns-then-not-is_file-clause-looks
returns-then-not-is_file-clause-looks g c =
    inl (refl, is_none _ c.is_file.result c.is_file.ensures c.if-not-is_file.true, refl)

pub returns-in-Ok-read-clause-looks : goal.returns-in-Ok-read-clause-looks
returns-in-Ok-read-clause-looks g c =
    let seen = g.W.World.seen in
    let asked = c.in-Ok.ensures.asked in
    let read = c.in-Ok-read.ensures in
    inr (inr (
      (
        asked_still (opening (Some c.args.name.now)) (seen c.args.world.now) (seen c.open.new.self) (seen c.close.new.self) c.close.ensures.asked asked.0,
        kept _ _ _ _ asked.1 c.close.ensures.counted (read.counted ∙ c.new-source.ensures.fresh),
      ),
      subst (λ given. IsFirst (length c.args.front.now) given (take c.in-Ok-read.count c.read_front-read.new.buffer)) (c.new-source.ensures.remaining ∙ c.in-Ok.ensures.given) read.read,
    ))

pub returns-in-Err-clause-looks : goal.returns-in-Err-clause-looks
returns-in-Err-clause-looks g c =
    let seen = g.W.World.seen in
    let asked = c.in-Ok.ensures.asked in
    let fresh = c.new-source.ensures.fresh in
    inr (inl (
      asked_still (opening (Some c.args.name.now)) (seen c.args.world.now) (seen c.open.new.self) (seen c.close.new.self) c.close.ensures.asked asked.0,
      counted _ _ _ _ 1 asked.1 c.close.ensures.counted (omega (arith, c.in-Err.ensures.counted, fresh)),
      refl,
    ))
