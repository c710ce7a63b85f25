-- One text behind the other; each number has at most 20 digits. Assumes nothing.
use mathlib.Core.Path.{sym}
use native.Mathlib.Omega.{arith}
use Rattle.season_lines.specs.Lines.{line_of}
use Rattle.season_lines.proofs.Decimal.{decimal-short}
use Rattle.season_lines.proofs.Hexadecimal.{message-short}
use Rattle.season_lines.proofs.Texts.{put_then}
use Rattle.season_lines.proofs.put_line.Goals as goal

pub put_field-at-requires : goal.put_field-at-requires
put_field-at-requires c =
    omega (arith, c.requires, c.put_number-at.ensures.ends, c.put_number-at.auto.line, decimal-short c.args.number)

pub put_field-at-requires-2 : goal.put_field-at-requires-2
put_field-at-requires-2 c =
    omega (
      arith,
      c.requires,
      c.put_number-at.ensures.ends,
      c.put_number-at.auto.line,
      c.put_field-at.ensures.ends,
      c.put_field-at.auto.line,
      decimal-short c.args.number,
      decimal-short c.from.result,
    )

pub put_message-at-requires : goal.put_message-at-requires
put_message-at-requires c =
    omega (
      arith,
      c.requires,
      c.put_number-at.ensures.ends,
      c.put_number-at.auto.line,
      c.put_field-at.ensures.ends,
      c.put_field-at.auto.line,
      c.put_field-at-2.ensures.ends,
      c.put_field-at-2.auto.line,
      decimal-short c.args.number,
      decimal-short c.from.result,
      decimal-short c.args.answer,
    )

pub put_byte-requires : goal.put_byte-requires
put_byte-requires c =
    omega (
      arith,
      c.requires,
      c.put_number-at.ensures.ends,
      c.put_number-at.auto.line,
      c.put_field-at.ensures.ends,
      c.put_field-at.auto.line,
      c.put_field-at-2.ensures.ends,
      c.put_field-at-2.auto.line,
      c.put_message-at.ensures.ends,
      c.put_message-at.auto.line,
      decimal-short c.args.number,
      decimal-short c.from.result,
      decimal-short c.args.answer,
      message-short c.args.message.now,
    )

pub returns : goal.returns
unfolding line_of
returns c =
    rw (sym c.from.ensures)
    (put_then _ _ 0 _ _ _ _ _ (omega arith)
    (put_then _ _ 0 _ _ _ _ _ (omega arith)
    (put_then _ _ 0 _ _ _ _ _ (omega arith)
    (put_then _ _ 0 _ _ _ _ _ (omega arith) c.put_number-at.ensures c.put_field-at.ensures) c.put_field-at-2.ensures) c.put_message-at.ensures)
    c.put_byte.ensures)
