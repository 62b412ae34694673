pub mod LaidBlocks
