-- `modifiers::counts::arithmetic` meets its contract.
use Rattle.std.proofs.Common.{◌≡◌, sym, ◌∙◌, arith, w64}
use mir.ValLaws.{to_z-of_z}
use Rattle.std.proofs.lemmas.Result.{err_from_is_err_and}
use Rattle.rules.specs.Basics.{other}
use Rattle.rules.specs.Modifiers.{date_step}
use Rattle.moment.specs.Held.{held}
use Rattle.moment.proofs.Chains.{moved_as}
use Rattle.moment.proofs.Modifiers.{by_date_is}
use Rattle.modifiers.proofs.Forms.{sign_shorter, no_date, date_other, date_refused, date_is, size_at, dated, date_stops, not_dated}
use Rattle.modifiers.proofs.Answers.{stepped, refused, stepped_as}
use Rattle.modifiers.proofs.counts.arithmetic.Goals as goal
use Rattle.modifiers.proofs.counts.arithmetic.Goals.{in-Some+in_ok-ms+in_default-2, in_default}

pub clock_after-requires : goal.clock_after-requires
clock_after-requires c = omega (arith, c.in-Some.ensures.shorter, sign_shorter c.args.s.now c.sign-minus.result.1.now c.sign-minus.result.0 c.sign-minus.ensures)

pub by_date-requires : goal.by_date-requires
by_date-requires c =
    let months = to_z-of_z w64 _ (record { sfits = c.signed-months.type_inv }) ∙ c.signed-months.ensures in
    let ms = to_z-of_z w64 _ (record { sfits = c.signed.type_inv }) ∙ c.signed.ensures in
    let l = c.in-Some.ensures.limits in
    let t = rw c.in-Some-2.is at c.in_ok-ms.ensures.in_clock in
    (c.requires.1, size_at _ _ months (omega arith), size_at _ _ ms (omega arith))

pub time_step-requires : goal.time_step-requires
time_step-requires c = (omega (arith, sign_shorter c.args.s.now c.sign-minus.result.1.now c.sign-minus.result.0 c.sign-minus.ensures), c.requires.1)

pub returns-in_err-ms : goal.returns-in_err-ms
returns-in_err-ms c =
    let p = err_from_is_err_and c.from_residual.result c.from_residual.ensures.1 in
    rw (p.1, p.2) (refused _ _ _ (date_stops _ _ _ _ (sym c.sign-minus.ensures) _ (date_refused _ _ _ _ _ _ _ (sym c.in-Some.ensures.value) _ (sym c.in_err-ms.ensures.value))))

pub returns-in-Some-2 : goal.returns-in-Some-2
returns-in-Some-2 c =
    let months = to_z-of_z w64 _ (record { sfits = c.signed-months.type_inv }) ∙ c.signed-months.ensures in
    let ms = to_z-of_z w64 _ (record { sfits = c.signed.type_inv }) ∙ c.signed.ensures in
    let t = rw c.in-Some-2.is at c.in_ok-ms.ensures.value in
    stepped _ (dated _ _ _ _ (sym c.sign-minus.ensures) _ (date_is _ _ _ _ _ _ _ (sym c.in-Some.ensures.value) _ (sym t)))
    (moved_as (by_date_is _ _ _ _ _ _ months ms) c.by_date.ensures)

-- no date, or one that no time follows
pub returns : goal.returns
returns c = stepped_as _ (not_dated _ _ _ _ (sym c.sign-minus.ensures) undated) c.time_step.ensures
  where
    undated : date_step c.sign-minus.result.0 c.sign-minus.result.1.now (held c.args.p) ≡ other
    undated =
        elim c.match-year_month_day.branch [
          | in-Some+in_ok-ms+in_default-2 w ↦ date_other _ _ _ _ _ _ _ (sym w.in-Some.ensures.value) (sym (rw w.in_default-2.is at w.in_ok-ms.ensures.value))
          | in_default w ↦ no_date _ _ _ (sym w.in_default.ensures.value)
        ]
