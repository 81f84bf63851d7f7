use Rattle.std.proofs.Common.{◌≡◌, ◌∙◌, ◌+◌, ◌-◌, ◌%◌, ◌^◌, ℕ, ap, cond, eq-eqb, refl, sym}
use Rattle.cct_model.specs.Order.{life_between}
use Rattle.cct_live_order.specs.Told.{told_after}
use Rattle.cct_live_order.specs.declared.told.OrderTold.TheVariants.{Odd}
use Rattle.cct_live_order.proofs.told.told_after.Goals as goal

between : (before after : ℕ) → (after + 2 ^ 24 - before) % 2 ^ 24 ≡ life_between before after
unfolding life_between
between before after = refl

pub returns-then-closed-id-2 : goal.returns-then-closed-id-2
returns-then-closed-id-2 c =
    let odd = c.in-Odd in
    let told = c.args.told in
    ap (λ n. Odd n) (c.since.ensures.difference ∙ between odd.life_before odd.life_after)
    ∙ sym (ap (λ r. told_after c.args.id r told) odd.is
    ∙ ap (λ b. cond b (Odd (life_between odd.life_before odd.life_after)) told)
    (eq-eqb odd.closed c.args.id c.if-closed-id-2.true))
