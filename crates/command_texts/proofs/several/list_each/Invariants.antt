use Rattle.std.proofs.Common.{◌≡◌, ◌≤◌, take}
use Rattle.command_texts.specs.Fields.{IsAnswerTold}
use Rattle.command_texts.specs.Several.{AreListed, IsListStatus, TellsOneUnread, style_of}
use Rattle.text_access.specs.Names.{files_of, names_of}
use Rattle.text_access.specs.Written.{BothGain}
use Rattle.command_texts.proofs.several.list_each.Given as goal

abbrev pub invariant-loop-name : goal.invariant-loop-name
invariant-loop-name g l = record {
  few : l.well ≤ l.name-index;
  stays : l.console.texts ≡ l.fn.console.texts;
  listed : AreListed (files_of (g.S.TextSource.bytes_of l.fn.console.texts.now) (g.S.TextSource.names_in l.fn.console.texts.now)) (g.C.Text.Taker.taken_in (g.S.TextSource.text_in l.fn.console.texts.now)) (IsAnswerTold (g.C.OnOne.how_much l.command) g.C.Text.Taker.is_refused (g.C.OnOne.is_answer l.command)) g.C.Text.Taker.is_refused (g.C.OnOne.has_note l.command) (style_of l.listing) (names_of (take l.name-index l.names)) (g.O.Write.contents l.fn.console.output, g.E.Write.contents l.fn.console.errors) (g.O.Write.contents l.console.output, g.E.Write.contents l.console.errors) l.well l.worst;
  known : IsListStatus l.worst;
  unread : l.worst ≡ 3 → TellsOneUnread (g.E.Write.contents l.fn.console.errors) (g.E.Write.contents l.console.errors);
  gains : BothGain (g.O.Write.contents l.fn.console.output, g.E.Write.contents l.fn.console.errors) (g.O.Write.contents l.console.output, g.E.Write.contents l.console.errors);
}
