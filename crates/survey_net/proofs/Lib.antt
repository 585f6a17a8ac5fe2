mod PeerLemmas
mod SoundLemmas
