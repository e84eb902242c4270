use Rattle.std.proofs.Common.{arith, subst, sym}
use Rattle.cept_codes.specs.declared.command.Command.{Command}
use Rattle.cept_listing.specs.Listing.{command_text}
use Rattle.cept_report.specs.Room.{Adds}
use Rattle.cept_listing.proofs.command.add_command.Goals as goal

pub returns-in-ColourDefaults : goal.returns-in-ColourDefaults
unfolding command_text
returns-in-ColourDefaults c =
    subst (λ (command : Command). Adds c.args.line.now 26 (command_text command) c.add_text-in-ColourDefaults.new.line)
    (sym c.in-ColourDefaults.is)
    (record {
      text = c.add_text-in-ColourDefaults.ensures.text;
      len = omega (arith, c.add_text-in-ColourDefaults.ensures.len);
    })

pub returns-in-ServiceEnd : goal.returns-in-ServiceEnd
unfolding command_text
returns-in-ServiceEnd c =
    subst (λ (command : Command). Adds c.args.line.now 26 (command_text command) c.add_text-in-ServiceEnd.new.line)
    (sym c.in-ServiceEnd.is)
    (record { text = c.add_text-in-ServiceEnd.ensures.text; len = omega (arith, c.add_text-in-ServiceEnd.ensures.len) })

pub returns-in-ControlDefaults : goal.returns-in-ControlDefaults
unfolding command_text
returns-in-ControlDefaults c =
    subst (λ (command : Command). Adds c.args.line.now 26 (command_text command)
    c.add_c1_set-in-ControlDefaults.new.line)
    (sym c.in-ControlDefaults.is)
    (record {
      text = c.add_c1_set-in-ControlDefaults.ensures.text;
      len = omega (arith, c.add_c1_set-in-ControlDefaults.ensures.len);
    })
