use Rattle.book_audit.proofs.Serial.{sound_serial}
use Rattle.book_audit.proofs.Numbers.{sound_differ}
use Rattle.book_audit.proofs.laws.sound_is_serial.Goals as goal

pub returns : goal.returns
returns c = record { serial = sound_serial; once = sound_differ }
