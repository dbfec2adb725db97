-- `real::unix_seconds` meets its contract: the epoch comes off after the division as before it.
use Rattle.std.proofs.Common.{◌≡◌, pos, ◌-ℤ◌, w64, SFits}
use mir.ValLaws.{to_z-of_z}
use Rattle.rules.specs.Writing.{unix_seconds}
use Rattle.real.proofs.Signs.{euclid_floor, floor_epoch, epoch_fits}
use Rattle.real.proofs.unix_seconds.Goals as goal

pub returns : goal.returns
unfolding unix_seconds
returns c =
    let f : SFits w64 c.signed.result = record { sfits = c.signed.type_inv } in
    let g : SFits w64 c.div_euclid.result = record { sfits = c.div_euclid.type_inv } in
    let e : c.div_euclid.result -ℤ pos 210866760000 ≡ unix_seconds c.args.ms = rw (c.div_euclid.ensures, to_z-of_z w64 _ f, c.signed.ensures, euclid_floor) (floor_epoch c.args.ms) in
    rw (to_z-of_z w64 _ g, e) (to_z-of_z w64 _ (epoch_fits _ c.ranges.ms.fits))
