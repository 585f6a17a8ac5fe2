-- The capture that is written: low octets first, and times in microseconds (libpcap's capture file format).
use Rattle.std.specs.Prelude.{◌++◌, ℕ, List, length, flat_map}
use Rattle.byteorder.specs.Endian.{little_bytes}

-- the magic, version 2.4, time zone and accuracy 0, snap length 65,535, and Ethernet
abbrev pub written_header : List ℕ
written_header =
    little_bytes 4 0xA1B2C3D4 ++ (little_bytes 2 2 ++ (little_bytes 2 4
    ++ (little_bytes 4 0 ++ (little_bytes 4 0 ++ (little_bytes 4 65535 ++ little_bytes 4 1)))))

-- the octets before a frame of so many octets: the seconds, fraction 0, and twice the length
abbrev pub written_record : ℕ → ℕ → List ℕ
written_record seconds size = little_bytes 4 seconds ++ (little_bytes 4 0 ++ (little_bytes 4 size ++ little_bytes 4 size))

-- a frame and its time
pub record TimedFrame : Type 0 where
  pub seconds : ℕ
  pub frame : List ℕ

abbrev pub written_frame : TimedFrame → List ℕ
written_frame timed = written_record timed.seconds (length timed.frame) ++ timed.frame

-- a header, and behind it each frame in a record
abbrev pub written_capture : List TimedFrame → List ℕ
written_capture list = written_header ++ flat_map written_frame list
