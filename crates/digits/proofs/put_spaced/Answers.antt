-- `digits::put_spaced` meets its contract. Assumes nothing.
use mathlib.Core.Path.{sym}
use mathlib.Core.List.{[], ◌∷◌}
use Rattle.digits.proofs.Texts.{spaced_one, spaced_two}
use Rattle.digits.proofs.Buffer.{room_as, room_first, room_then, laid_as, laid_then}
use Rattle.digits.proofs.put_spaced.Goals as goal

pub put_byte-digits-requires : goal.put_byte-digits-requires
put_byte-digits-requires c = room_first (32 ∷ []) _ (room_as (spaced_one _ c.if-v-lt10.true) c.requires.room)

pub put_digits-requires-clause-room : goal.put_digits-requires-clause-room
put_digits-requires-clause-room c = room_then c.put_byte-digits.ensures (room_as (spaced_one _ c.if-v-lt10.true) c.requires.room)

pub returns-then-v-lt10 : goal.returns-then-v-lt10
returns-then-v-lt10 c = laid_as (sym (spaced_one _ c.if-v-lt10.true)) (laid_then c.put_byte-digits.ensures c.put_digits.ensures)

pub put_digits-requires-2-clause-room : goal.put_digits-requires-2-clause-room
put_digits-requires-2-clause-room c = room_as (spaced_two _ c.if-v-lt10.false) c.requires.room

pub returns : goal.returns
returns c = laid_as (sym (spaced_two _ c.if-v-lt10.false)) c.put_digits-2.ensures
